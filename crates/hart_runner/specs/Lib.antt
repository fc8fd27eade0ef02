-- SPDX-License-Identifier: Apache-2.0
pub mod Plans
pub mod Standing
