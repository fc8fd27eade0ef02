-- SPDX-License-Identifier: Apache-2.0
pub mod Guest
pub mod Loaded
pub mod Plain
pub mod Run
