-- SPDX-License-Identifier: Apache-2.0
pub mod Counting
pub mod Numbering
pub mod Padding
pub mod Replaying
pub mod Coding
pub mod Telling
