-- The tokens of printed texts, each with the text that it has.
use Rattle.std.specs.Prelude.{◌≡◌, ℕ, pos, zero, suc, ◌+◌, ◌/◌, ◌%◌, ◌^◌, ◌<◌, cond, ◌≤◌, Bool, true, false, ◌==◌, [], ◌∷◌, ◌++◌, length, slice_index, Some, None, codes}
use Rattle.std.proofs.Common.{refl, ap, rules, arith}
use Rattle.std.specs.Fmt.{decimal, digits, digits_onto, digit_glyph}
use Rattle.std.proofs.lemmas.Bool.{lt-ltb}
use Rattle.std.proofs.Math.Nat.{mod-lt}
use Rattle.std.specs.List.{list_all}
use Rattle.std.proofs.lemmas.Fmt.{digits_decimal, digits_value-decimal, first_decimal, decimal_digit, decimal_nonempty}
use Rattle.std.proofs.lemmas.Str.Parse.{IsNumeralModel, numerals_by_fold}
use Rattle.std.proofs.lemmas.Bool.Decides.{nat_tests}
use Rattle.c_lang.specs.Names.{Bytes, is_digit, is_letter, is_word, is_reserved}
use Rattle.c_lexer.proofs.Cases.{and_both, and_false}
use Rattle.c_lexer.proofs.Runs.{all_mono, digit_not_letter, digit_in_number}
use Rattle.c_lang.specs.Operators.{operator_text}
use Rattle.c_lang.specs.declared.expr.Op.{Op}
use Rattle.c_lang.specs.declared.expr.Op.TheVariants as op
use Rattle.c_lang.specs.declared.unit.Unit.TheVariants.{Merge}
use Rattle.c_grammar.specs.Bytes.{is_in_word, is_in_number, IsEnd}
use Rattle.c_grammar.specs.Words.{keyword_number, is_refused, is_allowed}
use Rattle.c_grammar.specs.Punctuators.{punctuator_number, IsLongest}
use Rattle.c_grammar.specs.Pieces.{IsPiece, IsNumber}
use Rattle.c_grammar.specs.Pieces as lexed
use Rattle.c_grammar.specs.Lexed.{goes}
use Rattle.c_grammar.specs.declared.token.Word.{Word}
use Rattle.c_grammar.specs.declared.token.Word.TheVariants as w
use Rattle.c_grammar.specs.declared.piece.Piece.TheVariants as piece
use Rattle.c_grammar.specs.declared.piece.Place.{Place}
use Rattle.c_grammar.specs.Tokens.{At, token, mark, operator, operator_number, keyword, assert_key, break_key, client_in_key, client_out_key, dsu_choice_key, else_key, if_key, int_key, return_key, void_key, while_key}
use Rattle.merge_printer.proofs.Chains.{Prints}

-- a token begins at this place
abbrev pub Here : Place → At → Type 0
Here p at = at.pos ≡ p.pos

-- the text is one token
abbrev pub Single : Word → Place → Bytes → Bytes → Type 0
Single what p z rest = Prints (λ (at : At). token at what ∷ []) (Here p) p z rest

abbrev pub Marked : ℕ → Place → Bytes → Bytes → Type 0
Marked k p z rest = Prints (λ (at : At). mark k at ∷ []) (Here p) p z rest

abbrev pub Key : ℕ → Place → Bytes → Bytes → Type 0
Key k p z rest = Prints (λ (at : At). keyword k at ∷ []) (Here p) p z rest

single : {p : Place} {z rest : Bytes} (what : Word) → IsPiece Merge p.fresh rest z (piece.Token what) → Single what p z rest
single {p} {z} {rest} what is = record {
  tree = record { start = p.offset; end = p.offset + length z; pos = p.pos };
  is = refl;
  cuts = λ ts c. goes p z rest (piece.Token what) ts is c;
}

-- ---- punctuators

longest : (byte : ℕ) (rest : Bytes) → ((next : ℕ) → punctuator_number (byte ∷ next ∷ []) ≡ None) → IsLongest (byte ∷ []) rest
longest byte [] h = tt
longest byte (next ∷ rest) h = h next

-- a punctuator that no other one begins with
alone : {p : Place} {rest : Bytes} (byte k : ℕ) → punctuator_number (byte ∷ []) ≡ Some k
    → ((next : ℕ) → punctuator_number (byte ∷ next ∷ []) ≡ None) → (byte == 47) ≡ false → Marked k p (byte ∷ []) rest
alone {p} {rest} byte k e h f = single (w.Punct k) (lexed.punctuator (byte ∷ []) k e (longest byte rest h) (rw f refl))

operator_piece : (rest : Bytes) (fresh : Bool) (o : Op) → IsPiece Merge fresh (codes " " ++ rest) (operator_text o) (piece.Token (w.Punct (operator_number o)))
unfolding punctuator_number
operator_piece rest fresh op.Or = lexed.punctuator (codes "||") 22 refl refl refl
operator_piece rest fresh op.And = lexed.punctuator (codes "&&") 21 refl refl refl
operator_piece rest fresh op.Eq = lexed.punctuator (codes "==") 19 refl refl refl
operator_piece rest fresh op.Ne = lexed.punctuator (codes "!=") 20 refl refl refl
operator_piece rest fresh op.Lt = lexed.punctuator (codes "<") 15 refl refl refl
operator_piece rest fresh op.Le = lexed.punctuator (codes "<=") 17 refl refl refl
operator_piece rest fresh op.Gt = lexed.punctuator (codes ">") 16 refl refl refl
operator_piece rest fresh op.Ge = lexed.punctuator (codes ">=") 18 refl refl refl
operator_piece rest fresh op.Add = lexed.punctuator (codes "+") 9 refl refl refl
operator_piece rest fresh op.Sub = lexed.punctuator (codes "-") 10 refl refl refl
operator_piece rest fresh op.Mul = lexed.punctuator (codes "*") 11 refl refl refl
operator_piece rest fresh op.Div = lexed.punctuator (codes "/") 12 refl refl refl
operator_piece rest fresh op.Rem = lexed.punctuator (codes "%") 13 refl refl refl

module _ {p : Place} {rest : Bytes} where
  pub round_opens : Marked 0 p (codes "(") rest
  unfolding punctuator_number
  round_opens = alone 40 0 refl (λ next. refl) refl

  pub round_closes : Marked 1 p (codes ")") rest
  unfolding punctuator_number
  round_closes = alone 41 1 refl (λ next. refl) refl

  pub brace_opens : Marked 2 p (codes "{") rest
  unfolding punctuator_number
  brace_opens = alone 123 2 refl (λ next. refl) refl

  pub brace_closes : Marked 3 p (codes "}") rest
  unfolding punctuator_number
  brace_closes = alone 125 3 refl (λ next. refl) refl

  pub square_opens : Marked 4 p (codes "[") rest
  unfolding punctuator_number
  square_opens = alone 91 4 refl (λ next. refl) refl

  pub square_closes : Marked 5 p (codes "]") rest
  unfolding punctuator_number
  square_closes = alone 93 5 refl (λ next. refl) refl

  pub semicolon_mark : Marked 6 p (codes ";") rest
  unfolding punctuator_number
  semicolon_mark = alone 59 6 refl (λ next. refl) refl

  pub comma_mark : Marked 7 p (codes ",") rest
  unfolding punctuator_number
  comma_mark = alone 44 7 refl (λ next. refl) refl

  pub star_mark : Marked 11 p (codes "*") rest
  unfolding punctuator_number
  star_mark = alone 42 11 refl (λ next. refl) refl

  pub equals_mark : Marked 8 p (codes "=") (codes " " ++ rest)
  unfolding punctuator_number
  equals_mark = single (w.Punct 8) (lexed.punctuator (codes "=") 8 refl refl refl)

  pub operator_mark : (o : Op) → Prints (λ (at : At). operator o at ∷ []) (Here p) p (operator_text o) (codes " " ++ rest)
  operator_mark o = single (w.Punct (operator_number o)) (operator_piece rest p.fresh o)

-- the next byte is not this one
abbrev pub IsNot : ℕ → Bytes → Type 0
IsNot byte rest = IsEnd (λ next. next == byte) rest

no_decrement : (rest : Bytes) → IsNot 45 rest → IsLongest (codes "-") rest
unfolding punctuator_number
no_decrement [] h = tt
no_decrement (next ∷ rest) h = rw h refl

no_unequal : (rest : Bytes) → IsNot 61 rest → IsLongest (codes "!") rest
unfolding punctuator_number
no_unequal [] h = tt
no_unequal (next ∷ rest) h = rw h refl

pub minus_mark : {p : Place} {rest : Bytes} → IsNot 45 rest → Marked 10 p (codes "-") rest
unfolding punctuator_number
minus_mark {p} {rest} h = single (w.Punct 10) (lexed.punctuator (codes "-") 10 refl (no_decrement rest h) refl)

pub bang_mark : {p : Place} {rest : Bytes} → IsNot 61 rest → Marked 14 p (codes "!") rest
unfolding punctuator_number
bang_mark {p} {rest} h = single (w.Punct 14) (lexed.punctuator (codes "!") 14 refl (no_unequal rest h) refl)

-- ---- words

never_refused : (x : Bytes) → is_refused Merge x ≡ false
unfolding is_allowed
never_refused x = and_false (is_reserved x)

pub all_in_word : (x : Bytes) → is_word x ≡ true → list_all is_in_word x ≡ true
all_in_word [] h = refl
all_in_word (byte ∷ x) h = let both = and_both (is_letter byte) (list_all is_in_word x) h in rw (both.0, both.1) refl

-- a name that a text can have
abbrev pub IsName : Bytes → Type 0
IsName x = (is_word x ≡ true) × (keyword_number x ≡ None)

pub name_word : {p : Place} {x rest : Bytes} → IsName x → IsEnd is_in_word rest → Single (w.Ident x) p x rest
name_word {p} {x} {rest} h end =
    single (w.Ident x) (lexed.identifier x (record { all = all_in_word x h.0; ends = end }) h.0 (never_refused x) h.1)

pub key_word : {p : Place} {rest : Bytes} (k : ℕ) (x : Bytes) → is_word x ≡ true → keyword_number x ≡ Some k → IsEnd is_in_word rest → Key k p x rest
key_word k x is e end = single (w.Key k) (lexed.keyword x k (record { all = all_in_word x is; ends = end }) is (never_refused x) e)

-- ---- numbers

-- every number is written with digits
digit_of : (n : ℕ) → is_digit (digit_glyph false (n % 10)) ≡ true
digit_of n = let below = mod-lt n (omega arith) in rw (lt-ltb (n % 10) 10 below) (digit_byte (n % 10) below)
  where
    digit_byte : (d : ℕ) → d < 10 → is_digit (48 + d) ≡ true
    digit_byte d h = grind (arith, nat_tests)

all_digits_onto : (k n : ℕ) (ds : Bytes) → list_all is_digit ds ≡ true → list_all is_digit (digits_onto k 10 false n ds) ≡ true
all_digits_onto zero n ds h = h
all_digits_onto (suc k) n ds h =
    let next : list_all is_digit (digit_glyph false (n % 10) ∷ ds) ≡ true = rw (digit_of n, h) refl in
    by_test _ _ (n / 10 == 0) next (all_digits_onto k (n / 10) (digit_glyph false (n % 10) ∷ ds) next)
  where
    by_test : (xs ys : Bytes) (b : Bool) → list_all is_digit xs ≡ true → list_all is_digit ys ≡ true → list_all is_digit (cond b xs ys) ≡ true
    by_test xs ys true x y = x
    by_test xs ys false x y = y

pub all_digits : (n : ℕ) → list_all is_digit (decimal n) ≡ true
unfolding digits
all_digits n = all_digits_onto 64 n [] refl

-- letters and then a number are a word
pub numbered_word : (n : ℕ) → list_all is_in_word (decimal n) ≡ true
numbered_word n = all_mono is_digit is_in_word (decimal n) (λ byte digit. rw (digit_not_letter byte digit, digit) refl) (all_digits n)

own : IsNumeralModel (λ ds. list_all is_digit ds ≡ true) (lexed.value 0)
own = numerals_by_fold _ (search rules) lexed.value (search rules)

plain_of : (n : ℕ) → n < 2 ^ 64 → 1 < length (decimal n) → slice_index (decimal n) 0 ≡ 48 → ⊥
plain_of zero small long zero_first = let e = ap length (decimal_digit 0 (omega arith)) in omega arith
plain_of (suc n) small long zero_first = let f = first_decimal (suc n) (omega arith) small in omega arith

pub is_number : (n : ℕ) → n ≤ 2147483647 → IsNumber (decimal n) n
is_number n le =
    let small : n < 2 ^ 64 = omega arith in
    record {
      some = decimal_nonempty n small;
      digits = digits_decimal own n small;
      plain = λ long zero_first. plain_of n small long zero_first;
      value_is = digits_value-decimal own n small;
      fits = le;
    }

pub number_word : {p : Place} {rest : Bytes} (n : ℕ) → n ≤ 2147483647 → IsEnd is_in_number rest → Single (w.Number (pos n)) p (decimal n) rest
number_word n le end =
    let is = is_number n le in
    single (w.Number (pos n)) (lexed.number (decimal n) n (record { all = all_mono is_digit is_in_number (decimal n) digit_in_number is.digits; ends = end }) is)

-- ---- keywords

module _ {p : Place} {rest : Bytes} (end : IsEnd is_in_word rest) where
  pub int_word : Key int_key p (codes "int") rest
  unfolding keyword_number
  int_word = key_word int_key (codes "int") refl refl end

  pub void_word : Key void_key p (codes "void") rest
  unfolding keyword_number
  void_word = key_word void_key (codes "void") refl refl end

  pub if_word : Key if_key p (codes "if") rest
  unfolding keyword_number
  if_word = key_word if_key (codes "if") refl refl end

  pub else_word : Key else_key p (codes "else") rest
  unfolding keyword_number
  else_word = key_word else_key (codes "else") refl refl end

  pub while_word : Key while_key p (codes "while") rest
  unfolding keyword_number
  while_word = key_word while_key (codes "while") refl refl end

  pub break_word : Key break_key p (codes "break") rest
  unfolding keyword_number
  break_word = key_word break_key (codes "break") refl refl end

  pub return_word : Key return_key p (codes "return") rest
  unfolding keyword_number
  return_word = key_word return_key (codes "return") refl refl end

  pub assert_word : Key assert_key p (codes "assert") rest
  unfolding keyword_number
  assert_word = key_word assert_key (codes "assert") refl refl end

  pub client_in_word : Key client_in_key p (codes "client_in") rest
  unfolding keyword_number
  client_in_word = key_word client_in_key (codes "client_in") refl refl end

  pub client_out_word : Key client_out_key p (codes "client_out") rest
  unfolding keyword_number
  client_out_word = key_word client_out_key (codes "client_out") refl refl end

  pub dsu_choice_word : Key dsu_choice_key p (codes "dsu_choice") rest
  unfolding keyword_number
  dsu_choice_word = key_word dsu_choice_key (codes "dsu_choice") refl refl end
