-- SPDX-License-Identifier: Apache-2.0
pub mod Growing
pub mod Pieces
pub mod Sizing
pub mod Sourcing
