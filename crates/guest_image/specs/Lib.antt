-- SPDX-License-Identifier: Apache-2.0
pub mod Literals
pub mod Records
pub mod Walks
