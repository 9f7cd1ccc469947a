-- Texts whose tokens are known, one behind the other. A text prints a tree where, from a place on and
-- with some rest behind it, it is cut into the tokens of that tree.
use Rattle.std.specs.Prelude.{⊤, ◌≡◌, true, List, [], ◌∷◌, ◌++◌, codes}
use Rattle.std.proofs.Common.{refl, sym, subst, append_assoc}
use Rattle.c_lang.specs.Names.{Bytes}
use Rattle.c_lang.specs.declared.unit.Unit.TheVariants.{Merge}
use Rattle.c_grammar.specs.Pieces.{white}
use Rattle.c_grammar.specs.Lexed.{Cuts, goes, after_byte, after_bytes}
use Rattle.c_grammar.specs.declared.token.Token.{Token}
use Rattle.c_grammar.specs.declared.piece.Piece.TheVariants as piece
use Rattle.c_grammar.specs.declared.piece.Place.{Place}

after_both : (p : Place) (a b : Bytes) → after_bytes p (a ++ b) ≡ after_bytes (after_bytes p a) b
after_both p [] b = refl
after_both p (byte ∷ a) b = after_both (after_byte p byte) a b

-- Where rest follows it, the text is the tokens of a tree of which this is so, and moves from place to place.
pub record Moves {T : Type 0} (tokens : T → List Token) (Is : T → Type 0) (p : Place) (z rest : Bytes) (q : Place) : Type 0 where
  pub tree : T
  pub is : Is tree
  pub cuts : (ts : List Token) → Cuts Merge q rest ts → Cuts Merge p (z ++ rest) (tokens tree ++ ts)

-- a text within a line
abbrev pub Prints : {T : Type 0} → (T → List Token) → (T → Type 0) → Place → Bytes → Bytes → Type 0
Prints tokens Is p z rest = Moves tokens Is p z rest (after_bytes p z)

-- a text that ends where a line begins
pub record Lines {T : Type 0} (tokens : T → List Token) (Is : T → Type 0) (p : Place) (z rest : Bytes) : Type 0 where
  pub place : Place
  pub fresh : place.fresh ≡ true
  pub moves : Moves tokens Is p z rest place

abbrev pub both_tokens : {A B : Type 0} → (A → List Token) → (B → List Token) → A × B → List Token
both_tokens ta tb x = ta x.0 ++ tb x.1

abbrev pub AreBoth : {A B : Type 0} → (A → Type 0) → (B → Type 0) → A × B → Type 0
AreBoth IsA IsB x = IsA x.0 × IsB x.1

module _ {A B : Type 0} {ta : A → List Token} {tb : B → List Token} {IsA : A → Type 0} {IsB : B → Type 0} where
  linked : {p q r : Place} {a b rest : Bytes} → Moves ta IsA p a (b ++ rest) q → Moves tb IsB q b rest r
      → Moves (both_tokens ta tb) (AreBoth IsA IsB) p (a ++ b) rest r
  linked {p} {q} {r} {a} {b} {rest} x y = record {
    tree = (x.tree, y.tree);
    is = (x.is, y.is);
    cuts = λ ts c.
        subst (λ (z : Bytes). Cuts Merge p z ((ta x.tree ++ tb y.tree) ++ ts)) (sym (append_assoc a b rest))
        (subst (λ (xs : List Token). Cuts Merge p (a ++ (b ++ rest)) xs) (sym (append_assoc (ta x.tree) (tb y.tree) ts))
        (x.cuts (tb y.tree ++ ts) (y.cuts ts c)));
  }

  -- one behind the other
  pub followed : {p : Place} {a b rest : Bytes} → Prints ta IsA p a (b ++ rest) → Prints tb IsB (after_bytes p a) b rest
      → Prints (both_tokens ta tb) (AreBoth IsA IsB) p (a ++ b) rest
  followed {p} {a} {b} {rest} x y = subst (λ (q : Place). Moves (both_tokens ta tb) (AreBoth IsA IsB) p (a ++ b) rest q) (sym (after_both p a b)) (linked x y)

  -- lines that begin with a text
  pub before : {p : Place} {a b rest : Bytes} → Prints ta IsA p a (b ++ rest) → Lines tb IsB (after_bytes p a) b rest
      → Lines (both_tokens ta tb) (AreBoth IsA IsB) p (a ++ b) rest
  before x y = record { place = y.place; fresh = y.fresh; moves = linked x y.moves }

  -- lines behind lines
  pub above : {p : Place} {a b rest : Bytes} → Lines ta IsA p a (b ++ rest) → ((q : Place) → q.fresh ≡ true → Lines tb IsB q b rest)
      → Lines (both_tokens ta tb) (AreBoth IsA IsB) p (a ++ b) rest
  above x f = let y = f x.place x.fresh in record { place = y.place; fresh = y.fresh; moves = linked x.moves y.moves }

  -- the same tokens as another tree
  other : {p q : Place} {z rest : Bytes} → (f : A → B) → ((x : A) → tb (f x) ≡ ta x) → ((x : A) → IsA x → IsB (f x))
      → Moves ta IsA p z rest q → Moves tb IsB p z rest q
  other {p} {q} {z} {rest} f same is x = record {
    tree = f x.tree;
    is = is x.tree x.is;
    cuts = λ ts c. subst (λ (xs : List Token). Cuts Merge p (z ++ rest) (xs ++ ts)) (sym (same x.tree)) (x.cuts ts c);
  }

  pub as_tree : {p : Place} {z rest : Bytes} → (f : A → B) → ((x : A) → tb (f x) ≡ ta x) → ((x : A) → IsA x → IsB (f x))
      → Prints ta IsA p z rest → Prints tb IsB p z rest
  as_tree f same is x = other f same is x

  pub as_lines : {p : Place} {z rest : Bytes} → (f : A → B) → ((x : A) → tb (f x) ≡ ta x) → ((x : A) → IsA x → IsB (f x))
      → Lines ta IsA p z rest → Lines tb IsB p z rest
  as_lines f same is x = record { place = x.place; fresh = x.fresh; moves = other f same is x.moves }

-- no text
pub nothing : {p : Place} {rest : Bytes} → Prints (λ (x : ⊤). []) (λ (x : ⊤). ⊤) p [] rest
nothing = record { tree = tt; is = tt; cuts = λ ts c. c }

-- no lines
pub no_lines : {p : Place} {rest : Bytes} → p.fresh ≡ true → Lines (λ (x : ⊤). []) (λ (x : ⊤). ⊤) p [] rest
no_lines {p} fresh = record { place = p; fresh = fresh; moves = record { tree = tt; is = tt; cuts = λ ts c. c } }

pub space : {p : Place} {rest : Bytes} → Prints (λ (x : ⊤). []) (λ (x : ⊤). ⊤) p (codes " ") rest
space {p} {rest} = record { tree = tt; is = tt; cuts = λ ts c. goes p (32 ∷ []) rest piece.Space ts (white 32 refl) c }

module _ {B : Type 0} {tb : B → List Token} {IsB : B → Type 0} where
  -- a space in front
  pub spaced : {p : Place} {b rest : Bytes} → Prints tb IsB (after_bytes p (codes " ")) b rest → Prints tb IsB p (codes " " ++ b) rest
  spaced {p} {b} {rest} x = record {
    tree = x.tree;
    is = x.is;
    cuts = λ ts c. goes p (32 ∷ []) (b ++ rest) piece.Space (tb x.tree ++ ts) (white 32 refl) (x.cuts ts c);
  }

  -- a space in front of lines
  pub spaced_lines : {p : Place} {b rest : Bytes} → Lines tb IsB (after_bytes p (codes " ")) b rest → Lines tb IsB p (codes " " ++ b) rest
  spaced_lines {p} {b} {rest} x = record {
    place = x.place;
    fresh = x.fresh;
    moves = record {
      tree = x.moves.tree;
      is = x.moves.is;
      cuts = λ ts c. goes p (32 ∷ []) (b ++ rest) piece.Space (tb x.moves.tree ++ ts) (white 32 refl) (x.moves.cuts ts c);
    };
  }

  -- a text up to the line's end
  pub ended : {p : Place} {b rest : Bytes} → Prints tb IsB p b (codes "\n" ++ rest) → Lines tb IsB p (b ++ codes "\n") rest
  ended {p} {b} {rest} x = record {
    place = after_bytes (after_bytes p b) (codes "\n");
    fresh = refl;
    moves = record {
      tree = x.tree;
      is = x.is;
      cuts = λ ts c.
          subst (λ (z : Bytes). Cuts Merge p z (tb x.tree ++ ts)) (sym (append_assoc b (codes "\n") rest))
          (x.cuts ts (goes (after_bytes p b) (10 ∷ []) rest piece.Space ts (white 10 refl) c));
    };
  }
