-- SPDX-License-Identifier: Apache-2.0
pub mod Acting
pub mod Classes
pub mod Framing
pub mod Grouping
pub mod Lookups
pub mod Numbering
mod Staying
pub mod Words
