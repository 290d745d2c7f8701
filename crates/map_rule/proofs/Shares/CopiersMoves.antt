-- What a copier knows of its shares and its tables, after the places, shares and words beside them have become others.
use Rattle.std.proofs.Common.{◌≡◌, ◌≢◌, ℕ, ◌+◌, ◌<◌, Bool, true, refl, sym, subst, arith, inl, inr}
use Rattle.std.proofs.lemmas.Bool.{cases_eq, eq-eqb, ne_eqb}
use Rattle.map_machines.specs.Given.TablesDeclared.table.Table.{Table}
use Rattle.map_rule.specs.Chart.{Place, Share, Claimed, Done, Chart, put_in, is_settled}
use Rattle.map_rule.specs.Rule.{total}
use Rattle.map_rule.specs.Moves.{is_done_by, NamedInRootAlone}
use Rattle.map_rule.specs.Words.{Blocks}
use Rattle.map_rule.specs.Maps.{IsTable}
use Rattle.map_rule.proofs.Shares.CopiersShares.{total_more}

module _ (share : ℕ → ℕ → Share) (caller u i : ℕ) where
  -- the caller has one share no more that is claimed, and no other
  pub none_claimed : (s : Share) → s ≢ Claimed caller → ((j : ℕ) → share u j ≡ Claimed caller → j ≡ i) → (j : ℕ) → put_in share u i s u j ≢ Claimed caller
  none_claimed s other only j e = grind (arith, only j, e, other)

  -- one share is claimed, where there was none
  pub one_claimed : ((j : ℕ) → share u j ≢ Claimed caller) → (j : ℕ) → put_in share u i (Claimed caller) u j ≡ Claimed caller → j ≡ i
  one_claimed none j e = grind (arith, none j, e)

  pub share_here : (s : Share) → put_in share u i s u i ≡ s
  share_here s = rw (eq-eqb u u refl, eq-eqb i i refl) refl

  -- one share more is done
  pub one_done : (len done : ℕ) → i < len → is_done_by caller (share u i) ≡ 0 → done ≡ total (is_done_by caller) (share u) len
      → done + 1 ≡ total (is_done_by caller) (put_in share u i (Done caller) u) len
  one_done len done inside was is =
      let more = total_more (is_done_by caller) share u i (Done caller) len inside was (rw (eq-eqb caller caller refl) refl) in omega (arith, more, is)

-- places below one are settled, and so is that one
pub settled_next : (place : ℕ → Place) (i : ℕ) → ((j : ℕ) → j < i → is_settled (place j) ≡ true) → is_settled (place i) ≡ true
    → (j : ℕ) → j < i + 1 → is_settled (place j) ≡ true
settled_next place i below here j l =
    elim (cases_eq j i) as (λ _. is_settled (place j) ≡ true) [
      | inl e ↦ subst (λ (x : ℕ). is_settled (place x) ≡ true) (sym e) here
      | inr ne ↦ below j (omega arith)
    ]

-- places below one are settled, whatever becomes of that one
pub settled_below : (place : ℕ → ℕ → Place) (t i : ℕ) (p : Place) → ((j : ℕ) → j < i → is_settled (place t j) ≡ true)
    → (j : ℕ) → j < i → is_settled (put_in place t i p t j) ≡ true
settled_below place t i p below j l = rw (eq-eqb t t refl, ne_eqb j i (omega arith)) (below j l)

module _ {K : Type 0} (c : Chart K) (place : ℕ → ℕ → Place) (share : ℕ → ℕ → Share) (claim copied : ℕ → ℕ) where
  -- the chart with these
  abbrev pub beside : Chart K
  beside = record c { place = place; share = share; claim = claim; copied = copied }

  pub table_beside : (blocks : Blocks) (table : Table) (t : ℕ) → IsTable c blocks table t → IsTable beside blocks table t
  table_beside blocks table t e = record { made = e.made; known = e.known; is = e.is }

module _ {K : Type 0} (same : K → K → Bool) (spot : ℕ → K → ℕ → ℕ) (c : Chart K) (share : ℕ → ℕ → Share) (claim copied : ℕ → ℕ) where
  -- later tables name no more than before
  pub alone_beside : (i : ℕ) (p : Place) (k : K) → NamedInRootAlone same spot true c k
      → NamedInRootAlone same spot true (beside c (put_in c.place c.first i p) share claim copied) k
  alone_beside i p k alone t j later = rw (ne_eqb t c.first (omega arith)) (alone t j later)
