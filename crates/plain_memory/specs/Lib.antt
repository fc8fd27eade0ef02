-- SPDX-License-Identifier: Apache-2.0
pub mod Access
pub mod Changed
pub mod Laid
pub mod Plain
