-- SPDX-License-Identifier: Apache-2.0
pub mod Ending
pub mod Inside
pub mod Lengths
pub mod Naming
