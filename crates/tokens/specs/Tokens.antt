-- What token stands at the front of a text, and what follows it. Assumes nothing.
use Rattle.std.specs.Prelude.{◌≡◌, ℕ, Bool, cond, ◌&&◌, List, [], ◌∷◌, ◌++◌, take, drop, Some, None, Option, ◌==◌, nat_le}
use Rattle.std.specs.List.{prefix_len}
use Rattle.std.specs.Borrow.{Bor}
use Rattle.tokens.specs.declared.token.Kind.{Kind}
use Rattle.tokens.specs.declared.token.Kind.TheVariants.{Letter, Digit}
use Rattle.tokens.specs.declared.token.Token.{Token}
use Rattle.tokens.specs.declared.token.Token.TheVariants.{Open, Close, Name, Numeral}

-- a lowercase letter, or a decimal digit
abbrev pub belongs : Kind → ℕ → Bool
belongs Letter b = nat_le 97 b && nat_le b 122
belongs Digit b = nat_le 48 b && nat_le b 57

-- how long the longest run at the front is of bytes that pass the test
abbrev pub run : (ℕ → Bool) → List ℕ → ℕ
run p bs = prefix_len p bs

-- a token by its bytes
pub data Word : Type 0 where
  opening : Word
  closing : Word
  name : List ℕ → Word
  numeral : List ℕ → Word

-- a name or a numeral, with all bytes of its kind that stand at the front, and what follows
abbrev pub longest : Kind → (List ℕ → Word) → List ℕ → Option (Word × List ℕ)
longest k word text = Some (word (take (run (belongs k) text) text), drop (run (belongs k) text) text)

abbrev pub token_of : List ℕ → Option (Word × List ℕ)
token_of [] = None
token_of (b ∷ bs) =
    cond (b == 40) (Some (opening, bs))
    (cond (b == 41) (Some (closing, bs))
    (cond (belongs Letter b) (longest Letter name (b ∷ bs))
    (cond (belongs Digit b) (longest Digit numeral (b ∷ bs))
    None)))

abbrev pub word_of : Token → Word
word_of Open = opening
word_of Close = closing
word_of (Name w) = name w.now
word_of (Numeral w) = numeral w.now

abbrev pub read_token : Token × Bor (List ℕ) → Word × List ℕ
read_token p = (word_of p.0, p.1.now)

abbrev pub bytes : Word → List ℕ
bytes opening = 40 ∷ []
bytes closing = 41 ∷ []
bytes (name w) = w
bytes (numeral w) = w

-- the text is the token's bytes, and then the rest
abbrev pub Splits : List ℕ → Option (Word × List ℕ) → Type 0
Splits text None = Unit {0}
Splits text (Some p) = bytes p.0 ++ p.1 ≡ text
