-- SPDX-License-Identifier: Apache-2.0
pub mod Cutting
pub mod Quoting
pub mod Tables
pub mod Trimming
pub mod Words
