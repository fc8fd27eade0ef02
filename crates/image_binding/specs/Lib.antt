-- SPDX-License-Identifier: Apache-2.0
pub mod Binds
pub mod Order
pub mod Stages
