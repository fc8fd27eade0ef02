-- SPDX-License-Identifier: Apache-2.0
pub mod Answer
pub mod Asked
pub mod Headline
pub mod Said
