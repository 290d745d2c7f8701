-- What is seen by a link of a map, or by the word of a place, is a table or a pair of the map that may be looked at: what is so of all of these is so of it.
use Rattle.std.specs.Prelude.{◌≢◌, ◌==◌, ◌/◌, ◌<◌, ◌^◌, ◌&&◌, not, Option, if◌then◌else◌}
use Rattle.std.proofs.Common.{◌≡◌, ℕ, Bool, true, false, ◌⊎◌, inl, inr, refl, sym, subst, ap, arith, ◌∙◌}
use Rattle.std.proofs.lemmas.Bool.{eq-eqb, eqb-false}
use Rattle.run_shows.specs.Given.SeizeWordsMem.{Mem}
use Rattle.run_shows.specs.Given.SeizeWordsPlan.{Now, Seeing}
use Rattle.run_shows.specs.Given.SeizeWorld.{World}
use Rattle.run_shows.specs.Given.TablesFinding.{may_name}
use Rattle.run_shows.specs.Given.SeizeWordsWord.{byte_in}
use Rattle.run_shows.specs.Given.TablesDeclared.node.Node.{Node}
use Rattle.run_shows.specs.Given.RuleChart.{Place, Chart}
use Rattle.run_shows.specs.Given.RuleLinks.{LeadsTo, IsLinkTo}
use Rattle.run_shows.specs.Given.RuleWords.{Blocks, Represents, place_word, byte_of}
use Rattle.run_shows.proofs.Given.RuleWords.PlaceWords.{pair_block}
use Rattle.run_shows.proofs.Given.RuleWords.PlaceWordsRead.{word-pair}
use Rattle.run_shows.proofs.Given.RuleWords.PlacesShown.{AreStored, byte_of-few}
use Rattle.many_acts.specs.Looks.Blocks.{MayLookAt}
use Rattle.many_acts.proofs.Looks.Sees.Plans.{sees_if, sees_one}

-- it is so of each table and of each pair that may be looked at
pub record AllSeen {K : Type 0} (P : ℕ → Type 0) (c : Chart K) (seen : Blocks) : Type 0 where
  pub tables : (t : ℕ) → t < c.past → seen.table_known t ≡ true → P (seen.table t)
  pub pairs : (n : ℕ) → n < c.stored → seen.pair_known n ≡ true → P (seen.pair n)

module _ {K V : Type 0} (w : World (Node K V)) (slot : ℕ) (c : Chart K) (seen : Blocks) (Held : ℕ → Type 0) (within : AllSeen Held c seen) where
  -- the table that a link leads to
  pub table_held : (link u : ℕ) → IsLinkTo c seen link u → Held (link / 2048)
  table_held link u (is, made, known) =
      let same : seen.table u ≡ link / 2048 = omega (arith, is) in subst (λ (b : ℕ). Held b) same (within.tables u made known)

  pub link_held : (link u : ℕ) → LeadsTo c seen link u → (link == 0) ≡ false → Held (link / 2048)
  link_held link u (inl none) some = absurd (let zero = eq-eqb link 0 none.0 in cc (zero, some))
  link_held link u (inr leads) some = table_held link u leads

  -- what is seen by a link that was read
  pub sees_link : {R : Type 0} (shown : ℕ → Option (Node K V)) (link u : ℕ) → LeadsTo c seen link u → (empty : R) (on : Node K V → R) (b : ℕ)
      → MayLookAt b shown (if link == 0 then Now empty else Seeing (link / 2048) (λ value. Now (on value))) → Held b
  sees_link shown link u leads empty on b sees = by (sees_if b shown (link == 0) (Now empty) (Seeing (link / 2048) (λ value. Now (on value))) sees)
    where
      by : (((link == 0) ≡ true) × MayLookAt b shown (Now empty)) ⊎ (((link == 0) ≡ false) × MayLookAt b shown (Seeing (link / 2048) (λ value. Now (on value)))) → Held b
      by (inl none) = absurd none.1
      by (inr some) = subst (λ (x : ℕ). Held x) (sym (sees_one b (link / 2048) shown on some.1)) (link_held link u leads some.0)

  module _ (hash : K → ℕ) (fits : (k : K) → hash k < 2 ^ 64) (root : ℕ) (m : Mem (Node K V)) (shows : Represents hash m c seen root) (stored : AreStored c)
      (t i : ℕ) (made : t < c.past) (known : seen.table_known t ≡ true) where
    abbrev word : ℕ
    word = place_word hash c seen (c.place t i)

    -- the pair of a place
    pub pair_held : 0 < place_word hash c seen (c.place t i) / 2048 → Held (place_word hash c seen (c.place t i) / 2048)
    pair_held some =
        let pair = word-pair seen.pair (λ o. byte_of hash (c.key o)) (c.place t i) some in
        let block : word / 2048 ≡ seen.pair pair.0 =
        ap (λ (p : Place). place_word hash c seen p / 2048) pair.3 ∙ pair_block seen.pair (λ o. byte_of hash (c.key o)) pair.0 pair.1 pair.2 (byte_of-few hash fits (c.key pair.0)) in
        subst (λ (b : ℕ). Held b) (sym block)
        (within.pairs pair.0 (stored t i pair.0 pair.1 pair.2 pair.3) (shows.named t i pair.0 pair.1 pair.2 made known pair.3))

    -- the pair that its word may name
    pub named_held : (code : ℕ) → may_name code (place_word hash c seen (c.place t i)) ≡ true → Held (place_word hash c seen (c.place t i) / 2048)
    named_held code may = pair_held (by (word / 2048 == 0) refl)
      where
        by : (x : Bool) → (word / 2048 == 0) ≡ x → 0 < word / 2048
        by true e = absurd (let not_so : may_name code word ≡ false = ap (λ (y : Bool). not y && (byte_in word == code / 2 ^ 57)) e in cc (not_so, may))
        by false e = let some : word / 2048 ≢ 0 = eqb-false (word / 2048) 0 e in omega (arith, some)
