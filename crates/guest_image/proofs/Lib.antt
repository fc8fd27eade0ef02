-- SPDX-License-Identifier: Apache-2.0
mod Loading
mod Numbers
mod Recorded
mod Walking
pub mod Accepting
