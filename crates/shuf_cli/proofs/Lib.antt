-- SPDX-License-Identifier: Apache-2.0
pub mod Answering
pub mod Answers
pub mod Going
pub mod Loading
pub mod Readable
