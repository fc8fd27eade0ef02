-- SPDX-License-Identifier: Apache-2.0
pub mod Text
pub mod Numbered
pub mod Kept
pub mod Full
pub mod Replay
pub mod Report
