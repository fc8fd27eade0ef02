-- SPDX-License-Identifier: Apache-2.0
pub mod Calling
pub mod Losing
pub mod Meant
pub mod Next
pub mod Ran
pub mod Refusal
pub mod Standing
