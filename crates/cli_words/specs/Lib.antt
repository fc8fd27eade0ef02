-- SPDX-License-Identifier: Apache-2.0
pub mod Limits
pub mod Numbers
pub mod Options
pub mod Ranges
pub mod Texts
pub mod Told
pub mod Words
