-- What the machine's frames stand for, as they change.
use Rattle.std.proofs.Common.{◌≡◌, List, [], ◌∷◌, ◌++◌, map, reverse, Vec, Global, refl, ap, ◌∙◌}
use Rattle.std.specs.Borrow.{Bor}
use Rattle.std.proofs.lemmas.List.{map-append, reverse-append}
use Rattle.std.proofs.lemmas.List.Sums.{fold-append}
use Rattle.plain_run.specs.Environments.{Sees}
use Rattle.plain_run.specs.Steps.{Item, Does, after_mark}
use Rattle.c_lang.specs.declared.stmt.Stmt.{Stmt}
use Rattle.plain_run.specs.declared.frame.Rest.{Rest}
use Rattle.plain_run.specs.declared.frame.Rest.TheVariants.{Body}
use Rattle.plain_run.specs.declared.frame.Frame.{Frame}
use Rattle.plain_run.specs.Code.Frames.{before, seen_items, seen_frame, seen_frames}

seen_items-push : (rest : List Rest) (r : Rest) → seen_items (rest ++ r ∷ []) ≡ before r (seen_items rest)
seen_items-push rest r = fold-append (λ items r. before r items) [] rest (r ∷ [])

-- a body holds no mark
after_mark-body : (body : List Stmt) (items : List Item) → after_mark (map Does body ++ items) ≡ after_mark items
after_mark-body [] items = refl
after_mark-body (s ∷ body) items = after_mark-body body items

pub after_mark-left : (old new : List Rest) (r : Rest) (body : Bor (List Stmt)) → old ≡ new ++ r ∷ [] → r ≡ Body body
    → after_mark (seen_items old) ≡ after_mark (seen_items new)
after_mark-left old new r body popped is =
    ap (λ rest. after_mark (seen_items rest)) popped ∙ ap after_mark (seen_items-push new r)
    ∙ ap (λ r. after_mark (before r (seen_items new))) is ∙ after_mark-body body.now (seen_items new)

pub seen_frames-push : {X Y F O : Type 0} (see : Sees X Y F O) (old new : Vec (Frame X Y) Global) (f : Frame X Y)
    → new.items ≡ old.items ++ f ∷ [] → seen_frames see new ≡ seen_frame see f ∷ seen_frames see old
seen_frames-push see old new f pushed =
    ap (λ frames. reverse (map (seen_frame see) frames)) pushed ∙ ap reverse (map-append (seen_frame see) old.items (f ∷ []))
    ∙ reverse-append (map (seen_frame see) old.items) (seen_frame see f ∷ [])
