use Rattle.std.proofs.Common.{◌≡◌, ◌∙◌, ◌∷◌, [], ◌+◌, ◌||◌, drop, ap, sym}
use Rattle.std.specs.List.{list_any}
use Rattle.std.specs.Str.{bytes_eq}
use Rattle.std.proofs.lemmas.List.{drop_all}
use Rattle.state_xform.proofs.NameLaws.{drop-next, names_of, one_added, past, seen-insert}
use Rattle.state_xform.proofs.names.NameSet.add_all.Goals as goal

pub loop-name-preserved : goal.loop-name-preserved
loop-name-preserved c = record {
  all = c.loop-name.invariant.all;
  listed = λ x.
      let left : drop c.loop-name.name-index c.as_slice-name-items.result.now ≡ c.name-item.result ∷ drop (c.loop-name.name-index + 1) c.as_slice-name-items.result.now = drop-next _ _ _ c.loop-name-test.true c.name-item.is in
      one_added _ _ _ _ _
      (ap (λ ks. list_any (bytes_eq x) (names_of ks)) c.in_ok-insert.ensures.keys ∙ seen-insert x c.loop-name.self-inside.listed.keys c.name-item.result)
      (ap (λ ks. list_any (bytes_eq x) (names_of ks) || list_any (bytes_eq x) (names_of c.loop-name.self-inside.listed.keys)) (sym left) ∙ c.loop-name.invariant.listed x);
}

pub returns : goal.returns
returns c x =
    let left : drop c.loop-name.name-index c.as_slice-name-items.result.now ≡ [] = drop_all _ _ (c.loop-name-test.false) in
    let same = sym (ap (λ ks. list_any (bytes_eq x) (names_of ks) || list_any (bytes_eq x) (names_of c.loop-name.self-inside.listed.keys)) left) ∙ c.loop-name.invariant.listed x in
    rw (← c.self.view_is, ← c.other.view_is, c.loop-name.invariant.all, c.if-other.false, ← c.as_slice-name-items.ensures.keys)
    (past _ _ _ _ same)
