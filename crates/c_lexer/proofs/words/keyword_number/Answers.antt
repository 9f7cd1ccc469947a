use Rattle.std.proofs.Common.{◌≡◌, ◌+◌, ◌-◌, ◌/◌, ◌<◌, sym, subst, arith}
use Rattle.std.specs.Ordering.{nat_cmp}
use Rattle.std.specs.Cmp.Lexicographic.{slice_cmp}
use Rattle.std.specs.declared.cmp.Ordering.TheVariants.{Less, Equal, Greater}
use Rattle.c_lang.specs.Names.{Bytes}
use Rattle.c_lexer.proofs.Keywords.{stands_before, stands_behind, found, missing}
use Rattle.c_lexer.proofs.words.keyword_number.Goals as goal

pub loop-low-preserved-in-Less : goal.loop-low-preserved-in-Less
loop-low-preserved-in-Less c =
    let middle = c.loop-low.low + (c.loop-low.high - c.loop-low.low) / 2 in
    let within : middle < 51 = omega (arith, c.loop-low.invariant.within) in
    record {
      within = omega arith;
      between = λ k kept is.
          let side = c.loop-low.invariant.between k kept is in
          (side.0, stands_before c.args.word.now k middle kept within is (subst (λ (other : Bytes). slice_cmp nat_cmp c.args.word.now other ≡ Less) c.entry_at.ensures (sym c.in-Less.ensures)));
    }

pub loop-low-preserved : goal.loop-low-preserved
loop-low-preserved c =
    let middle = c.loop-low.low + (c.loop-low.high - c.loop-low.low) / 2 in
    let within : middle < 51 = omega (arith, c.loop-low.invariant.within) in
    record {
      within = c.loop-low.invariant.within;
      between = λ k kept is.
          let side = c.loop-low.invariant.between k kept is in
          let place_behind = stands_behind c.args.word.now k middle kept within is (subst (λ (other : Bytes). slice_cmp nat_cmp c.args.word.now other ≡ Greater) c.entry_at.ensures (sym c.in-Greater.ensures)) in
          (omega (arith, place_behind), side.1);
    }

pub returns-in-Equal : goal.returns-in-Equal
returns-in-Equal c =
    let middle = c.loop-low.low + (c.loop-low.high - c.loop-low.low) / 2 in
    let within : middle < 51 = omega (arith, c.loop-low.invariant.within) in
    sym (found c.args.word.now middle within (subst (λ (other : Bytes). slice_cmp nat_cmp c.args.word.now other ≡ Equal) c.entry_at.ensures (sym c.in-Equal.ensures)))

pub returns : goal.returns
returns c = sym (missing c.args.word.now (λ k kept is. let side = c.loop-low.invariant.between k kept is in omega (arith, side)))
