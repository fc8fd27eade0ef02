-- SPDX-License-Identifier: Apache-2.0
pub mod Fields
pub mod Held
pub mod Parts
pub mod Tables
pub mod Writable
pub mod Written
