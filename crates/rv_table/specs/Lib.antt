-- SPDX-License-Identifier: Apache-2.0
pub mod Arithmetic
pub mod Decoding
pub mod Instruction
pub mod MachineForm
pub mod Operands
