-- SPDX-License-Identifier: Apache-2.0
pub mod Copied
pub mod Seeing
pub mod Sharing
pub mod Small
