-- SPDX-License-Identifier: Apache-2.0
pub mod FormWords
pub mod MachineWords
pub mod OneInstr
pub mod OneRow
pub mod Reading
