-- SPDX-License-Identifier: Apache-2.0
pub mod Done
pub mod Refused
