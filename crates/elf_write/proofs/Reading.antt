-- SPDX-License-Identifier: Apache-2.0
-- Headers that were written are read back.
use Rattle.std.proofs.Common.{◌≡◌, ℕ, ◌+◌, ◌^◌, ◌<◌, Bool, true, false, List, [], ◌∷◌, ◌++◌, length, map, refl, ap, ◌∙◌, append_assoc, arith}
use Rattle.std.specs.Prelude.{if◌then◌else◌}
use Rattle.std.proofs.lemmas.List.{length-append}
use Rattle.elf_rules.specs.declared.elf.Head.{Head}
use Rattle.elf_rules.specs.declared.elf.Segment.{Segment}
use Rattle.elf_rules.specs.Elf.{number_at, has, head_at, program, places}
use Rattle.elf_write.specs.Fields.{fields}
use Rattle.elf_write.specs.Tables.{flags_of, program_fields, program_header, section_fields, section_header}
use Rattle.elf_write.specs.Written.{section_headers}
use Rattle.elf_write.proofs.Numbers.{field_is, first_is}
use Rattle.elf_write.proofs.Widths.{length_section}

-- ---- program headers

pub record FitsSegment (segment : Segment) : Type 0 where
  pub start : segment.start < 2 ^ 64
  pub file_at : segment.file_at < 2 ^ 64
  pub file_size : segment.file_size < 2 ^ 64
  pub size : segment.size < 2 ^ 64

flags_small : (writable : Bool) → (if writable then 6 else 5) < 256 ^ 4
flags_small true = omega arith
flags_small false = omega arith

flags_say : (writable : Bool) → has (if writable then 6 else 5) 2 ≡ writable
flags_say true = refl
flags_say false = refl

pub program_read : (before : List ℕ) (at : ℕ) (segment : Segment) (behind : List ℕ) → length before ≡ at → FitsSegment segment → program ((before ++ program_header segment) ++ behind) at ≡ record { kind = 1; segment = segment }
unfolding program_header
program_read before at segment behind start fits =
    let all = program_fields segment in
    let bytes = (before ++ fields (program_fields segment)) ++ behind in
    let kind : number_at 4 bytes at ≡ 1 = first_is before at all behind start (omega arith) (omega arith) in
    let flags : number_at 4 bytes (at + 4) ≡ flags_of segment =
    field_is before at all 1 behind start (omega arith) (flags_small segment.writable) in
    let file_at : number_at 8 bytes (at + 8) ≡ segment.file_at = field_is before at all 2 behind start (omega arith) fits.file_at in
    let home : number_at 8 bytes (at + 16) ≡ segment.start = field_is before at all 3 behind start (omega arith) fits.start in
    let file_size : number_at 8 bytes (at + 32) ≡ segment.file_size =
    field_is before at all 5 behind start (omega arith) fits.file_size in
    let size : number_at 8 bytes (at + 40) ≡ segment.size = field_is before at all 6 behind start (omega arith) fits.size in
    let writable : has (number_at 4 bytes (at + 4)) 2 ≡ segment.writable =
    ap (λ (f : ℕ). has f 2) flags ∙ flags_say segment.writable in
    rw (kind, writable, file_at, home, file_size, size) refl

-- ---- section headers

pub record FitsHead (head : Head) : Type 0 where
  pub name : head.name < 2 ^ 32
  pub kind : head.kind < 2 ^ 32
  pub flags : head.flags < 2 ^ 64
  pub start : head.start < 2 ^ 64
  pub file_at : head.file_at < 2 ^ 64
  pub size : head.size < 2 ^ 64
  pub link : head.link < 2 ^ 32
  pub info : head.info < 2 ^ 32
  pub each : head.each < 2 ^ 64

pub head_read : (before : List ℕ) (at align : ℕ) (head : Head) (behind : List ℕ) → length before ≡ at → FitsHead head → head_at ((before ++ section_header align head) ++ behind) at ≡ head
unfolding section_header
head_read before at align head behind start fits =
    let all = section_fields align head in
    let bytes = (before ++ fields (section_fields align head)) ++ behind in
    let name : number_at 4 bytes at ≡ head.name = first_is before at all behind start (omega arith) fits.name in
    let kind : number_at 4 bytes (at + 4) ≡ head.kind = field_is before at all 1 behind start (omega arith) fits.kind in
    let flags : number_at 8 bytes (at + 8) ≡ head.flags = field_is before at all 2 behind start (omega arith) fits.flags in
    let home : number_at 8 bytes (at + 16) ≡ head.start = field_is before at all 3 behind start (omega arith) fits.start in
    let file_at : number_at 8 bytes (at + 24) ≡ head.file_at = field_is before at all 4 behind start (omega arith) fits.file_at in
    let size : number_at 8 bytes (at + 32) ≡ head.size = field_is before at all 5 behind start (omega arith) fits.size in
    let link : number_at 4 bytes (at + 40) ≡ head.link = field_is before at all 6 behind start (omega arith) fits.link in
    let info : number_at 4 bytes (at + 44) ≡ head.info = field_is before at all 7 behind start (omega arith) fits.info in
    let each : number_at 8 bytes (at + 56) ≡ head.each = field_is before at all 9 behind start (omega arith) fits.each in
    rw (name, kind, flags, home, file_at, size, link, info, each) refl

abbrev pub AllFit : List (ℕ × Head) → Type 0
AllFit [] = Unit {0}
AllFit (s ∷ rest) = FitsHead s.1 × AllFit rest

pub heads_read : (before : List ℕ) (at : ℕ) (all : List (ℕ × Head)) (behind : List ℕ) → length before ≡ at → AllFit all → map (head_at ((before ++ section_headers all) ++ behind)) (places 64 at (length all)) ≡ map (λ (s : ℕ × Head). s.1) all
unfolding section_headers
heads_read before at [] behind start fits = refl
heads_read before at (s ∷ rest) behind start fits =
    let this = section_header s.0 s.1 in
    let others = section_headers rest in
    let parts : (before ++ (this ++ others)) ++ behind ≡ ((before ++ this) ++ others) ++ behind = simp append_assoc in
    let bytes = ((before ++ this) ++ others) ++ behind in
    let first : head_at (((before ++ this) ++ others) ++ behind) at ≡ s.1 =
    ap (λ (b : List ℕ). head_at b at) (append_assoc (before ++ this) others behind) ∙ head_read before at s.0 s.1 (others ++ behind) start fits.0 in
    let next : length (before ++ this) ≡ at + 64 = rw (length-append, start, length_section) in
    let more = heads_read (before ++ this) (at + 64) rest behind next fits.1 in
    ap (λ (b : List ℕ). map (head_at b) (places 64 at (length (s ∷ rest)))) parts
    ∙ ap (λ (h : Head). h ∷ map (head_at bytes) (places 64 (at + 64) (length rest))) first
    ∙ ap (λ (hs : List Head). s.1 ∷ hs) more
