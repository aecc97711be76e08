-- What a line of a sheet says: the text of a form, and the form of a text. Assumes nothing.
use Rattle.std.specs.Prelude.{◌≡◌, ℕ, ◌+◌, ◌-◌, ◌*◌, ◌%◌, ◌^◌, ◌<◌, ◌≤◌, Bool, true, cond, not, ◌&&◌, ◌||◌, ◌↔◌, List, [], ◌∷◌, ◌++◌, length, take, drop, Some, None, codes, Option, ◌==◌, nat_le, slice_index}
use Rattle.std.specs.Borrow.{Bor}
use Rattle.std.specs.Str.{bytes_eq}
use Rattle.sources.specs.declared.offer.Offer.{Offer as Listed}
use Rattle.forms.specs.declared.form.Form.{Form}
use Rattle.forms.specs.declared.form.Form.TheVariants.{Frame, Coarse, Offer}
use Rattle.forms.specs.declared.form.Keyword.{Keyword}
use Rattle.forms.specs.declared.form.Keyword.TheVariants.{Framing, Coarsening, Offering}
use Rattle.tokens.specs.declared.token.Kind.TheVariants.{Letter, Digit}
use Rattle.tokens.specs.declared.token.Token.{Token}
use Rattle.tokens.specs.declared.token.Token.TheVariants.{Open, Close, Name, Numeral}
use Rattle.tokens.specs.Numerals.{numeral_of}
use Rattle.tokens.specs.Tokens.{belongs, run}

-- two numbers with a space between
abbrev pub two_text : ℕ → ℕ → List ℕ → List ℕ
two_text a b after = numeral_of a ++ (32 ∷ (numeral_of b ++ after))

-- the line of a form, with its line feed
abbrev pub text : Form → List ℕ
text (Frame n k) = codes "(frame " ++ two_text n k (41 ∷ 10 ∷ [])
text (Coarse x w) = codes "(coarse " ++ two_text x w (41 ∷ 10 ∷ [])
text (Offer o) = codes "(offer (" ++ two_text o.first o.second (41 ∷ 32 ∷ (numeral_of o.saving ++ (41 ∷ 10 ∷ [])))

-- no number of the form has more than six digits
abbrev pub Small : Form → Type 0
Small (Frame n k) = (n ≤ 999999) × (k ≤ 999999)
Small (Coarse x w) = (x ≤ 999999) × (w ≤ 999999)
Small (Offer o) = (o.first ≤ 999999) × (o.second ≤ 999999) × (o.saving ≤ 999999)

-- read what there is, and go on with what is left
abbrev pub next : {A B : Type 0} → Option A → (A → Option B) → Option B
next None go = None
next (Some a) go = go a

-- what follows the byte b
abbrev pub byte : ℕ → List ℕ → Option (List ℕ)
byte b [] = None
byte b (c ∷ cs) = cond (c == b) (Some cs) None

-- what follows the bracket, if the token is one
abbrev pub bracket : Token → List ℕ → Option (List ℕ)
bracket Open t = byte 40 t
bracket Close t = byte 41 t
bracket (Name w) t = None
bracket (Numeral w) t = None

-- the number that digits write
abbrev pub amount : ℕ → List ℕ → ℕ
amount n [] = n
amount n (d ∷ ds) = amount (n * 10 + (d - 48)) ds

-- a number of 32 bits with one digit more
abbrev pub digit_more : ℕ → ℕ → ℕ
digit_more n d = (n * 10 + (d - 48)) % 2 ^ 32

abbrev pub Digits : List ℕ → Type 0
Digits ds = (i : ℕ) → i < length ds → belongs Digit (slice_index ds i) ≡ true

-- one to six digits, and no needless zero
abbrev pub plain : List ℕ → Bool
plain ds = nat_le 1 (length ds) && (nat_le (length ds) 6 && (nat_le (length ds) 1 || not (slice_index ds 0 == 48)))

abbrev pub value_of : List ℕ → Option ℕ
value_of ds = cond (plain ds) (Some (amount 0 ds)) None

-- the number at the front, by the longest run of digits, and what follows it
abbrev pub number_of : List ℕ → Option (ℕ × List ℕ)
number_of t = next (value_of (take (run (belongs Digit) t) t)) (λ n. Some (n, drop (run (belongs Digit) t) t))

-- the name at the front, by the longest run of letters, and what follows it
abbrev pub name_of : List ℕ → Option (List ℕ × List ℕ)
name_of t = cond (nat_le 1 (run (belongs Letter) t)) (Some (take (run (belongs Letter) t) t, drop (run (belongs Letter) t) t)) None

-- two numbers with a space between, and what follows them
abbrev pub pair_of : List ℕ → Option (ℕ × ℕ × List ℕ)
pair_of t = next (number_of t) (λ a. next (byte 32 a.1) (λ r. next (number_of r) (λ b. Some (a.0, b.0, b.1))))

-- the closing bracket and the line feed, and nothing else
abbrev pub ended : List ℕ → Option (Unit {0})
ended t = next (byte 41 t) (λ r. next (byte 10 r) (λ e. cond (length e == 0) (Some tt) None))

abbrev pub two_of : List ℕ → Option (ℕ × ℕ)
two_of t = next (byte 32 t) (λ r. next (pair_of r) (λ p. next (ended p.2) (λ _. Some (p.0, p.1))))

abbrev pub offer_of : List ℕ → Option Listed
offer_of t =
    next (byte 32 t) (λ a. next (byte 40 a) (λ b. next (pair_of b) (λ p. next (byte 41 p.2) (λ d.
    next (byte 32 d) (λ e. next (number_of e) (λ s. next (ended s.1) (λ _.
    Some (record { first = p.0; second = p.1; saving = s.0 }))))))))

abbrev pub keyword_of : List ℕ → Option Keyword
keyword_of w =
    cond (bytes_eq w (codes "frame")) (Some Framing)
    (cond (bytes_eq w (codes "coarse")) (Some Coarsening)
    (cond (bytes_eq w (codes "offer")) (Some Offering)
    None))

-- the form that a keyword begins and t goes on with
abbrev pub begun : Keyword → List ℕ → Option Form
begun Framing t = next (two_of t) (λ p. Some (Frame p.0 p.1))
begun Coarsening t = next (two_of t) (λ p. Some (Coarse p.0 p.1))
begun Offering t = next (offer_of t) (λ o. Some (Offer o))

-- what a line says, if it is the line of a form
abbrev pub form : List ℕ → Option Form
form t = next (byte 40 t) (λ r. next (name_of r) (λ w. next (keyword_of w.0) (λ k. begun k w.1)))

-- a line says a form exactly when it is that form's text
abbrev pub Exact : List ℕ → Option Form → Type 0
Exact t r = (f : Form) → (r ≡ Some f) ↔ ((t ≡ text f) × Small f)

-- what the readers hand out, with the texts that they lend
abbrev pub both_now : Bor (List ℕ) × Bor (List ℕ) → List ℕ × List ℕ
both_now p = (p.0.now, p.1.now)

abbrev pub number_now : ℕ × Bor (List ℕ) → ℕ × List ℕ
number_now p = (p.0, p.1.now)

abbrev pub pair_now : ℕ × ℕ × Bor (List ℕ) → ℕ × ℕ × List ℕ
pair_now p = (p.0, p.1, p.2.now)
