-- SPDX-License-Identifier: Apache-2.0
pub mod Lists
pub mod Regions
pub mod StackTokens
