-- A line says a form exactly when it is that form's text. Assumes nothing.
use Rattle.std.proofs.Common.{◌≡◌, ℕ, ◌≤◌, false, eqb, leb, List, [], ◌∷◌, ◌++◌, length, take, drop, Some, None, codes, Option, sym, refl, ap, ◌∙◌, subst}
use Rattle.std.specs.Str.{bytes_eq}
use Rattle.std.proofs.lemmas.Slice.Eq.{bytes_eq-Decides}
use Rattle.std.proofs.lemmas.List.{take-append-drop, nil_from_length}
use Rattle.std.proofs.lemmas.Bool.{cond_both, eqb-true}
use Rattle.sources.specs.declared.offer.Offer.{Offer as Listed}
use Rattle.forms.specs.declared.form.Form.{Form}
use Rattle.forms.specs.declared.form.Form.TheVariants.{Frame, Coarse, Offer}
use Rattle.forms.specs.declared.form.Keyword.{Keyword}
use Rattle.forms.specs.declared.form.Keyword.TheVariants.{Framing, Coarsening, Offering}
use Rattle.tokens.specs.declared.token.Kind.TheVariants.{Letter, Digit}
use Rattle.tokens.specs.Tokens.{belongs, run}
use Rattle.tokens.specs.Numerals.{numeral_of}
use Rattle.forms.specs.Forms.{two_text, text, Small, next, byte, number_of, name_of, pair_of, ended, two_of, offer_of, keyword_of, begun, form, Exact}
use Rattle.forms.proofs.Numbers.{Holds, number_holds, number_back}

-- from a reader to the next
next_holds : {A B : Type 0} (P : A → Type 0) (Q : B → Type 0) (o : Option A) (go : A → Option B) → Holds P o → ((a : A) → P a → Holds Q (go a)) → Holds Q (next o go)
next_holds P Q None go h k = tt
next_holds P Q (Some a) go h k = k a h

byte_holds : (b : ℕ) (t : List ℕ) → Holds (λ r. t ≡ b ∷ r) (byte b t)
byte_holds b [] = tt
byte_holds b (c ∷ cs) = cond_both (eqb c b) (Some cs) None (Holds (λ r. c ∷ cs ≡ b ∷ r)) (λ h. ap (λ x. x ∷ cs) (eqb-true c b h)) (λ _. tt)

name_holds : (t : List ℕ) → Holds (λ p. t ≡ p.0 ++ p.1) (name_of t)
name_holds t =
    cond_both (leb 1 (run (belongs Letter) t)) (Some (take (run (belongs Letter) t) t, drop (run (belongs Letter) t) t)) None (Holds (λ p. t ≡ p.0 ++ p.1))
    (λ _. sym (take-append-drop (run (belongs Letter) t) t)) (λ _. tt)

abbrev word : Keyword → List ℕ
word Framing = codes "frame"
word Coarsening = codes "coarse"
word Offering = codes "offer"

keyword_holds : (w : List ℕ) → Holds (λ k. w ≡ word k) (keyword_of w)
keyword_holds w =
    let P : Option Keyword → Type 0 = Holds (λ k. w ≡ word k) in
    cond_both (bytes_eq w (codes "frame")) _ _ P (bytes_eq-Decides w (codes "frame")).0 (λ _.
    cond_both (bytes_eq w (codes "coarse")) _ _ P (bytes_eq-Decides w (codes "coarse")).0 (λ _.
    cond_both (bytes_eq w (codes "offer")) _ _ P (bytes_eq-Decides w (codes "offer")).0 (λ _. tt)))

abbrev Pair : List ℕ → ℕ × ℕ × List ℕ → Type 0
Pair t p = (t ≡ two_text p.0 p.1 p.2) × (p.0 ≤ 999999) × (p.1 ≤ 999999)

pair_holds : (t : List ℕ) → Holds (Pair t) (pair_of t)
pair_holds t =
    next_holds _ (Pair t) (number_of t) _ (number_holds t) (λ a ha.
    next_holds _ (Pair t) (byte 32 a.1) _ (byte_holds 32 a.1) (λ r hr.
    next_holds _ (Pair t) (number_of r) _ (number_holds r) (λ b hb.
    (ha.0 ∙ ap (λ l. numeral_of a.0 ++ l) (hr ∙ ap (λ l. 32 ∷ l) hb.0), ha.1, hb.1))))

ended_holds : (t : List ℕ) → Holds (λ _. t ≡ 41 ∷ 10 ∷ []) (ended t)
ended_holds t =
    let P : Unit {0} → Type 0 = λ _. t ≡ 41 ∷ 10 ∷ [] in
    next_holds _ P (byte 41 t) _ (byte_holds 41 t) (λ r hr.
    next_holds _ P (byte 10 r) _ (byte_holds 10 r) (λ e he.
    cond_both (eqb (length e) 0) (Some tt) None (Holds P) (λ h. hr ∙ ap (λ l. 41 ∷ l) (he ∙ ap (λ l. 10 ∷ l) (nil_from_length e (eqb-true (length e) 0 h)))) (λ _. tt)))

abbrev Two : List ℕ → ℕ × ℕ → Type 0
Two t p = (t ≡ 32 ∷ two_text p.0 p.1 (41 ∷ 10 ∷ [])) × (p.0 ≤ 999999) × (p.1 ≤ 999999)

two_holds : (t : List ℕ) → Holds (Two t) (two_of t)
two_holds t =
    next_holds _ (Two t) (byte 32 t) _ (byte_holds 32 t) (λ r hr.
    next_holds _ (Two t) (pair_of r) _ (pair_holds r) (λ p hp.
    next_holds _ (Two t) (ended p.2) _ (ended_holds p.2) (λ _ he.
    (hr ∙ ap (λ l. 32 ∷ l) (hp.0 ∙ ap (two_text p.0 p.1) he), hp.1, hp.2))))

abbrev Listing : List ℕ → Listed → Type 0
Listing t o = (t ≡ 32 ∷ 40 ∷ two_text o.first o.second (41 ∷ 32 ∷ (numeral_of o.saving ++ (41 ∷ 10 ∷ [])))) × (o.first ≤ 999999) × (o.second ≤ 999999) × (o.saving ≤ 999999)

offer_holds : (t : List ℕ) → Holds (Listing t) (offer_of t)
offer_holds t =
    next_holds _ (Listing t) (byte 32 t) _ (byte_holds 32 t) (λ a ha.
    next_holds _ (Listing t) (byte 40 a) _ (byte_holds 40 a) (λ b hb.
    next_holds _ (Listing t) (pair_of b) _ (pair_holds b) (λ p hp.
    next_holds _ (Listing t) (byte 41 p.2) _ (byte_holds 41 p.2) (λ d hd.
    next_holds _ (Listing t) (byte 32 d) _ (byte_holds 32 d) (λ e he.
    next_holds _ (Listing t) (number_of e) _ (number_holds e) (λ s hs.
    next_holds _ (Listing t) (ended s.1) _ (ended_holds s.1) (λ _ hz.
    let rest : p.2 ≡ 41 ∷ 32 ∷ (numeral_of s.0 ++ (41 ∷ 10 ∷ [])) = hd ∙ ap (λ l. 41 ∷ l) (he ∙ ap (λ l. 32 ∷ l) (hs.0 ∙ ap (λ l. numeral_of s.0 ++ l) hz)) in
    (ha ∙ ap (λ l. 32 ∷ l) (hb ∙ ap (λ l. 40 ∷ l) (hp.0 ∙ ap (two_text p.0 p.1) rest)), hp.1, hp.2, hs.1))))))))

abbrev Says : List ℕ → Form → Type 0
Says t f = (t ≡ text f) × Small f

begun_holds : (k : Keyword) (t : List ℕ) → Holds (Says (40 ∷ (word k ++ t))) (begun k t)
begun_holds Framing t = next_holds (Two t) (Says (40 ∷ (word Framing ++ t))) (two_of t) _ (two_holds t) (λ p h. (ap (λ l. 40 ∷ (word Framing ++ l)) h.0, (h.1, h.2)))
begun_holds Coarsening t = next_holds (Two t) (Says (40 ∷ (word Coarsening ++ t))) (two_of t) _ (two_holds t) (λ p h. (ap (λ l. 40 ∷ (word Coarsening ++ l)) h.0, (h.1, h.2)))
begun_holds Offering t = next_holds (Listing t) (Says (40 ∷ (word Offering ++ t))) (offer_of t) _ (offer_holds t) (λ o h. (ap (λ l. 40 ∷ (word Offering ++ l)) h.0, (h.1, h.2, h.3)))

form_holds : (t : List ℕ) → Holds (Says t) (form t)
form_holds t =
    next_holds _ (Says t) (byte 40 t) _ (byte_holds 40 t) (λ r hr.
    next_holds _ (Says t) (name_of r) _ (name_holds r) (λ w hw.
    next_holds _ (Says t) (keyword_of w.0) _ (keyword_holds w.0) (λ k hk.
    let whole : t ≡ 40 ∷ (word k ++ w.1) = hr ∙ ap (λ l. 40 ∷ l) (hw ∙ ap (λ l. l ++ w.1) hk) in
    subst (λ l. Holds (Says l) (begun k w.1)) (sym whole) (begun_holds k w.1))))

pair_back : (a b c : ℕ) (r : List ℕ) → a ≤ 999999 → b ≤ 999999 → belongs Digit c ≡ false → pair_of (two_text a b (c ∷ r)) ≡ Some (a, b, c ∷ r)
pair_back a b c r la lb stop =
    ap (λ o. next o (λ x. next (byte 32 x.1) (λ s. next (number_of s) (λ y. Some (x.0, y.0, y.1))))) (number_back a 32 (numeral_of b ++ (c ∷ r)) la refl)
    ∙ ap (λ o. next o (λ y. Some (a, y.0, y.1))) (number_back b c r lb stop)

two_back : (a b : ℕ) → a ≤ 999999 → b ≤ 999999 → two_of (32 ∷ two_text a b (41 ∷ 10 ∷ [])) ≡ Some (a, b)
two_back a b la lb = ap (λ o. next o (λ p. next (ended p.2) (λ _. Some (p.0, p.1)))) (pair_back a b 41 (10 ∷ []) la lb refl)

offer_back : (o : Listed) → Small (Offer o) → offer_of (32 ∷ 40 ∷ two_text o.first o.second (41 ∷ 32 ∷ (numeral_of o.saving ++ (41 ∷ 10 ∷ [])))) ≡ Some o
offer_back o l =
    ap
    (λ q. next q (λ p. next (byte 41 p.2) (λ d. next (byte 32 d) (λ e. next (number_of e) (λ s. next (ended s.1) (λ _. Some (record { first = p.0; second = p.1; saving = s.0 })))))))
    (pair_back o.first o.second 41 (32 ∷ (numeral_of o.saving ++ (41 ∷ 10 ∷ []))) l.0 l.1 refl)
    ∙ ap (λ q. next q (λ s. next (ended s.1) (λ _. Some (record { first = o.first; second = o.second; saving = s.0 })))) (number_back o.saving 41 (10 ∷ []) l.2 refl)

form_back : (f : Form) → Small f → form (text f) ≡ Some f
form_back (Frame n k) l = ap (λ o. next o (λ p. Some (Frame p.0 p.1))) (two_back n k l.0 l.1)
form_back (Coarse x w) l = ap (λ o. next o (λ p. Some (Coarse p.0 p.1))) (two_back x w l.0 l.1)
form_back (Offer o) l = ap (λ q. next q (λ p. Some (Offer p))) (offer_back o l)

pub form_exact : (t : List ℕ) → Exact t (form t)
form_exact t f = (λ e. subst (Holds (Says t)) e (form_holds t), λ h. ap form h.0 ∙ form_back f h.1)

pub exact_by : (t : List ℕ) (r : Option Form) → r ≡ form t → Exact t r
exact_by t r e = subst (Exact t) (sym e) (form_exact t)
