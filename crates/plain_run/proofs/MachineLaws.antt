-- A run's configuration, as its parts change.
use Rattle.std.proofs.Common.{◌≡◌, ℤ, Bool, false, List, [], ◌∷◌, ◌++◌, map, reverse, Vec, Global, Ok, Err, refl, sym, ap, ap₂, ◌∙◌, subst}
use Rattle.plain_run.specs.Environments.{Rules, Sees}
use Rattle.plain_run.specs.Steps as steps
use Rattle.plain_run.specs.Steps.{Config, Live, Over}
use Rattle.c_lang.specs.Values as spec
use Rattle.c_lang.specs.Values.{Answer}
use Rattle.c_lang.specs.declared.expr.Expr.{Expr}
use Rattle.c_lang.specs.declared.stmt.Dest.{Dest}
use Rattle.c_lang.specs.declared.unit.Pos.{Pos}
use Rattle.plain_run.specs.declared.frame.Frame.{Frame}
use Rattle.plain_run.specs.Code.Actions.{Call, Return, done}
use Rattle.plain_run.specs.Code.Calls.{Arguments, after_value, values_in}
use Rattle.plain_run.specs.Code.Frames.{behind_statement, dest_of, seen_frame, seen_frames}
use Rattle.plain_run.specs.Code.Scopes.{look_in}
use Rattle.plain_run.specs.Runs.{Makes}
use Rattle.plain_run.specs.Stacks.{config_if}
use Rattle.plain_run.specs.Values.{seen_value, number_of}
use Rattle.plain_run.specs.declared.step.Step.TheVariants.{Quiet, Shown}
use Rattle.c_lang.specs.declared.event.Event.TheVariants.{End}
use Rattle.plain_run.specs.declared.value.Value.{Value}
use Rattle.plain_run.proofs.ArithmeticLaws.{number-seen}
use Rattle.plain_run.proofs.FrameLaws.{seen_frames-push}

-- a frame was put on top
pub pushed : {X Y F G O : Type 0} (see : Sees X Y F O) (g h : G) (c : Config F G O) (f q : steps.Frame F O) (top top' : Frame X Y) (below below' : Vec (Frame X Y) Global)
    → c ≡ Live h q (behind_statement see top' ∷ seen_frames see below') → h ≡ g → q ≡ f → top' ≡ top → below'.items ≡ below.items
    → c ≡ Live g f (behind_statement see top ∷ seen_frames see below)
pushed {X} {Y} {F} {G} {O} see g h c f q top top' below below' is state frame same same_below =
    is ∙ ap₂ (λ (s : G) (t : steps.Frame F O). Live s t (behind_statement see top' ∷ seen_frames see below')) state frame
    ∙ ap₂ (λ (t : Frame X Y) (items : List (Frame X Y)). Live g f (behind_statement see t ∷ reverse (map (seen_frame see) items))) same same_below

module _ {F G O : Type 0} (R : Rules F G O) (g : G) (f : steps.Frame F O) where
  one_more : (a : Answer F) (vs ws : Arguments F) → vs ≡ ws → steps.and_values R.access a vs ≡ after_value a ws
  one_more (Err t) vs ws same = refl
  one_more (Ok v) (Err t) ws same = ap (after_value (Ok v)) same
  one_more (Ok v) (Ok vs) ws same = ap (after_value (Ok v)) same

  pub values_of-in : (es : List Expr) → steps.values_of R.access g f es ≡ values_in R.access.same (steps.look R.access g f) es
  values_of-in [] = refl
  values_of-in (e ∷ es) = one_more (steps.value_of R.access g f e) _ _ (values_of-in es)

-- a call's move, by its arguments and by what is called
module _ {X Y F G O : Type 0} (see : Sees X Y F O) (R : Rules F G O) (g : G) (top : Frame X Y) (fs : List (steps.Frame F O)) (es : List Expr) (d : Dest) (p : Pos) where
  abbrev called_with : spec.Value F → Arguments F → steps.Moves R.access
  called_with callee vs = steps.with R.access vs p (λ vs. steps.by_pointer R.access callee g (behind_statement see top) fs vs d p)

  pub call-is : (callee : spec.Value F) (vs : Arguments F) → vs ≡ values_in R.access.same (look_in see R g top) es
      → called_with callee vs ≡ done R g (behind_statement see top) fs (Call callee es d p)
  call-is callee vs is = ap (called_with callee) (is ∙ sym (values_of-in R g (behind_statement see top) es))

-- a frame is left, and the one below it gets the result
module _ {X Y F G O : Type 0} (see : Sees X Y F O) (R : Rules F G O) (g h : G) (top frame stored : Frame X Y) (below rest : Vec (Frame X Y) Global) (over : Bool) where
  abbrev left : Config F G O
  left = config_if over (Live h (seen_frame see stored) (seen_frames see rest))

  pub hands : (v : spec.Value F) (w : Value X) (c : Config F G O) (a : List ℤ) → over ≡ false → below.items ≡ rest.items ++ frame ∷ []
      → seen_value see.function w ≡ steps.given R.access top.gives v
      → steps.stored R.access g (seen_frame see frame) (seen_frames see rest) (dest_of top.dest) (seen_value see.function w) ≡ Live h (seen_frame see stored) (seen_frames see rest)
      → Makes (done R g (behind_statement see top) (seen_frames see below) (Return v)) c a Quiet left a
  hands v w c a live popped gives is =
      subst (λ fs. Makes (steps.handed R.access g (dest_of top.dest) (steps.given R.access top.gives v) fs) c a Quiet left a) (sym (seen_frames-push see rest below frame popped)) (
        ap (λ b. config_if b (Live h (seen_frame see stored) (seen_frames see rest))) live ∙ sym is
            ∙ ap (λ x. steps.stored R.access g (seen_frame see frame) (seen_frames see rest) (dest_of top.dest) x) gives,
        refl,
      )

-- the first frame is left
pub ends : {X Y F G O : Type 0} (see : Sees X Y F O) (R : Rules F G O) (g : G) (top : Frame X Y) (below : Vec (Frame X Y) Global) (v : spec.Value F) (w : Value X) (n : ℤ)
    (c : Config F G O) (a : List ℤ) → below.items ≡ [] → seen_value see.function w ≡ steps.given R.access top.gives v → n ≡ number_of w
    → Makes (done R g (behind_statement see top) (seen_frames see below) (Return v)) c a (Shown (End n)) Over a
ends see R g top below v w n c a none gives is =
    subst (λ items. Makes (steps.handed R.access g (dest_of top.dest) (steps.given R.access top.gives v) (reverse (map (seen_frame see) items))) c a (Shown (End n)) Over a) (sym none)
    (ap (λ z. End z) (is ∙ sym (number-seen see.function w) ∙ ap spec.number gives), refl, refl)
