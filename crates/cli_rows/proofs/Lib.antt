-- SPDX-License-Identifier: Apache-2.0
mod Assembling
pub mod Dues
mod Each
pub mod Inputs
mod Newest
pub mod Sizes
