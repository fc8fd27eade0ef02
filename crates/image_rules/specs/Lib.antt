-- SPDX-License-Identifier: Apache-2.0
pub mod Binding
pub mod Bound
pub mod Framed
pub mod Refusals
