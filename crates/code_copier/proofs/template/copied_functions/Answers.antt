-- SPDX-License-Identifier: Apache-2.0
use Rattle.std.proofs.Common.{◌≡◌, arith, length, subst, sym}
use Rattle.sh_types.specs.Image.{sizes_of}
use Rattle.code_copier.specs.Template.{FunctionsAreCopied}
use Rattle.code_copier.proofs.Sizes.{sizes_many}
use Rattle.code_copier.proofs.Templates.{below_none, functions_none}
use Rattle.code_copier.proofs.template.copied_functions.Goals as goal

pub loop-func-init : goal.loop-func-init
loop-func-init c =
    record {
      functions = rw c.in_ok-functions.ensures.items (functions_none c.args.image.now);
      first = sym (below_none c.args.image.now);
    }

pub copied_function-requires-clause-func : goal.copied_function-requires-clause-func
copied_function-requires-clause-func c = omega (arith, sizes_many c.args.image.now)

pub overflow_cast-func : goal.overflow_cast-func
overflow_cast-func c = omega (arith, sizes_many c.args.image.now, c.requires.few)

pub returns : goal.returns
returns c =
    let all : c.loop-func.func ≡ length (sizes_of c.args.image.now) = omega (arith, sizes_many c.args.image.now) in
    rw c.from_vec.ensures (subst (λ n. FunctionsAreCopied c.args.image.now n c.loop-func.functions.items) all c.loop-func.invariant.functions)
