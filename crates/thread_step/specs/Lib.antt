-- SPDX-License-Identifier: Apache-2.0
pub mod Doing
pub mod Framed
pub mod Listed
pub mod Numbered
pub mod Task
