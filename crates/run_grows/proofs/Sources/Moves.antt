-- A place from which a pair was copied is left by each change of the tables; and as a pair is put into a later table, the place is such a one.
use Rattle.std.specs.Prelude.{◌≡◌, ◌≢◌, ℕ, ◌<◌, Bool, true, false}
use Rattle.std.proofs.Common.{refl, sym, subst, ◌∙◌, inl, inr}
use Rattle.run_finds.specs.Given.RuleChart.{Phase, Still, Copying, Copied, Place, Empty, Tombstone, Holds, Share, Claimed, Chart, put_in}
use Rattle.run_finds.specs.Given.RuleRule.{Agrees, Rule}
use Rattle.run_finds.specs.Given.RuleMoves.{Move, Links, Stores, Replaces, Removes, Marks, MarksBlocking, Skips, Unmarks, Puts, Covers, PutsLate, Claims, Reclaims, Counts, GivesUp, Aborts, Promotes, Announces, Allowed, after, marked, still_place, copied_place, lent_place}
use Rattle.run_finds.proofs.Given.RuleMoves.Writes.{put_in_cases}

module _ {K : Type 0} (same : K → K → Bool) (spot : ℕ → K → ℕ → ℕ) (c : Chart K) (rule : Rule same spot true c) (n : ℕ) where
  -- the place names the pair, and it is being copied, or was
  pub record Moving (p : Place) : Type 0 where
    pub phase : Phase
    pub borrowed : Bool
    pub held : p ≡ Holds n phase borrowed
    pub moves : phase ≢ Still

  -- while it is being copied, a table behind the root names it
  abbrev pub NamedBehind : Type 0
  NamedBehind = (u : ℕ) × (j : ℕ) × (phase : Phase) × (borrowed : Bool) × (c.first < u) × (c.place u j ≡ Holds n phase borrowed)

  module _ (t i : ℕ) (m : Moving (c.place t i)) where
    -- one place was written: another one, or this one so that it names the pair still
    written : (t2 i2 : ℕ) (v : Place) → (c.place t2 i2 ≡ Holds n m.phase m.borrowed → Moving v) → Moving (put_in c.place t2 i2 v t i)
    written t2 i2 v here = elim (put_in_cases c.place t2 i2 v t i) as (λ _. Moving (put_in c.place t2 i2 v t i)) [
      | inl (same_turn, same_index, is) ↦ subst Moving (sym is) (here (sym (λ x. c.place (same_turn x) (same_index x)) ∙ m.held))
      | inr is ↦ subst Moving (sym is) m
    ]

    not_empty : (p : Place) (mark : Bool) (v : Place) → p ≡ Empty mark → p ≡ Holds n m.phase m.borrowed → Moving v
    not_empty p mark v empty held = absurd (cc (empty, held))

    not_still : (p : Place) (o : ℕ) (b : Bool) (v : Place) → p ≡ Holds o Still b → p ≡ Holds n m.phase m.borrowed → Moving v
    not_still p o b v still held = absurd (m.moves (let e = sym still ∙ held in cc e))

    marked_moves : (p : Place) → p ≡ Holds n m.phase m.borrowed → Moving (marked p)
    marked_moves p held = subst (λ (x : Place). Moving (marked x)) (sym held) (by m.phase m.moves)
      where
        by : (x : Phase) → x ≢ Still → Moving (marked (Holds n x m.borrowed))
        by Still ne = absurd (ne refl)
        by Copying ne = record { phase = Copying; borrowed = m.borrowed; held = refl; moves = λ e. cc e }
        by Copied ne = record { phase = Copied; borrowed = m.borrowed; held = refl; moves = λ e. cc e }

    covered : (p : Place) → p ≡ Holds n m.phase m.borrowed → Moving (copied_place spot true p)
    covered p held = subst (λ (x : Place). Moving (copied_place spot true x)) (sym held) (record { phase = Copied; borrowed = m.borrowed; held = refl; moves = λ e. cc e })

    -- The place is left by each change in incremental mode, if a later table names the pair while it is being copied.
    pub stays : (move : Move K) → Allowed same spot true move c → (m.phase ≡ Copying → NamedBehind) → Moving ((after spot true move c).place t i)
    stays (Links len limit) allowed behind = m
    stays (Stores u k j) allowed behind = written u (spot (c.len u) k j) (Holds c.stored Still false) (not_empty (c.place u (spot (c.len u) k j)) false (Holds c.stored Still false) allowed.3)
    stays (Replaces u j k) allowed behind = let s = allowed.0 in written u j (Holds c.stored Still false) (not_still (c.place u j) s.0 s.1 (Holds c.stored Still false) s.2)
    stays (Removes u j) allowed behind = let s = allowed.1 in written u j (Tombstone false) (not_still (c.place u j) s.0 s.1 (Tombstone false) s.2)
    stays (Marks caller j) allowed behind = written c.first j (marked (c.place c.first j)) (marked_moves (c.place c.first j))
    stays (MarksBlocking j) allowed behind = absurd (let e = allowed.0 in cc e)
    stays (Skips caller u j) allowed behind = absurd (let e = allowed.0 in cc e)
    stays (Unmarks caller j) allowed behind = written c.first j (still_place spot true (c.place c.first j)) (λ held. unmarked held m.phase refl)
      where
        unmarked : c.place c.first j ≡ Holds n m.phase m.borrowed → (x : Phase) → m.phase ≡ x → Moving (still_place spot true (c.place c.first j))
        unmarked held Still e = absurd (m.moves e)
        unmarked held Copying e = let b = behind e in absurd (allowed.3 n m.borrowed b.0 b.1 b.2 b.3 (subst (λ (x : Phase). c.place c.first j ≡ Holds n x m.borrowed) e held) b.4 b.5)
        unmarked held Copied e = absurd (cc (its_share.2, subst (λ (x : Phase). c.place c.first j ≡ Holds n x m.borrowed) e held))
          where
            its_share : Agrees (Claimed caller) (c.place c.first j)
            its_share = subst (λ (x : Share). Agrees x (c.place c.first j)) allowed.2 (rule.in_mode.shares j allowed.1)
    stays (Puts caller j u k g) allowed behind =
        written u (spot (c.len u) k g) (lent_place spot true (c.place c.first j)) (not_empty (c.place u (spot (c.len u) k g)) false (lent_place spot true (c.place c.first j)) allowed.4)
    stays (Covers caller j) allowed behind = written c.first j (copied_place spot true (c.place c.first j)) (covered (c.place c.first j))
    stays (PutsLate u j o) allowed behind = absurd (let e = allowed.0 in cc e)
    stays (Claims caller u chunk) allowed behind = m
    stays (Reclaims u claim) allowed behind = m
    stays (Counts caller u number) allowed behind = m
    stays (GivesUp caller u) allowed behind = m
    stays (Aborts u) allowed behind = m
    stays (Promotes u) allowed behind = m
    stays (Announces u) allowed behind = m
