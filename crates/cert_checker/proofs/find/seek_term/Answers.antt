use Rattle.std.proofs.Common.{◌≡◌, ◌∙◌, ◌-◌, ◌∷◌, suc, Some, slice_get, reverse, true, false, ap, sym, arith}
use Rattle.cert_checker.specs.declared.part.Part.TheVariants as part
use Rattle.cert_checker.specs.Code.Finding.{is_wanted, wanted_left}
use Rattle.cert_checker.proofs.FindLaws.{term_found, term_passed, term_other}
use Rattle.cert_checker.proofs.find.seek_term.Goals as goal

pub returns-then-not-is_wanted-clause-sought : goal.returns-then-not-is_wanted-clause-sought
returns-then-not-is_wanted-clause-sought c =
    let other : is_wanted c.args.wanted c.args.term ≡ false = sym c.is_wanted.ensures ∙ c.if-not-is_wanted.true in
    ap (λ ts. slice_get ts c.args.left) (term_other c.args.wanted c.args.term (reverse c.args.parts.now.items) (reverse c.open_term.new.parts.items) other c.in_ok-open_term.ensures)

pub returns-then-left-eq0-clause-sought : goal.returns-then-left-eq0-clause-sought
returns-then-left-eq0-clause-sought c =
    let same : is_wanted c.args.wanted c.args.term ≡ true = sym c.is_wanted.ensures ∙ c.if-not-is_wanted.false in
    ap (slice_get (wanted_left c.args.wanted (part.Term c.args.term ∷ reverse c.args.parts.now.items))) c.if-left-eq0.true
    ∙ term_found c.args.wanted c.args.term (reverse c.args.parts.now.items) same

pub returns-clause-sought : goal.returns-clause-sought
returns-clause-sought c =
    let same : is_wanted c.args.wanted c.args.term ≡ true = sym c.is_wanted.ensures ∙ c.if-not-is_wanted.false in
    let more : suc (c.args.left - 1) ≡ c.args.left = omega (arith, c.if-left-eq0.false) in
    term_passed c.args.wanted c.args.term (reverse c.args.parts.now.items) (reverse c.open_term-2.new.parts.items) (c.args.left - 1) same c.in_ok-open_term-2.ensures
    ∙ ap (slice_get (wanted_left c.args.wanted (part.Term c.args.term ∷ reverse c.args.parts.now.items))) more
