-- SPDX-License-Identifier: Apache-2.0
pub mod Coded
pub mod Rows
pub mod Sited
pub mod Targets
pub mod Tokens
