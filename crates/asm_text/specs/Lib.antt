-- SPDX-License-Identifier: Apache-2.0
pub mod Reading
pub mod Seen
pub mod Sizes
pub mod Source
pub mod Statements
