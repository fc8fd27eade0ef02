-- SPDX-License-Identifier: Apache-2.0
pub mod Calling
pub mod Laws
pub mod Meant
pub mod Next
pub mod Ran
