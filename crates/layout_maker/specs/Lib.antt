-- SPDX-License-Identifier: Apache-2.0
pub mod Draws
pub mod Cell
pub mod Order
pub mod Spots
pub mod Layout
