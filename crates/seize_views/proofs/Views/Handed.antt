-- A block that a settling is about to reclaim is the collector's, and no user changes its value.
use Rattle.std.specs.Prelude.{Option, IsSome, Ok, Err, length}
use Rattle.std.proofs.Common.{◌≡◌, ℕ, ◌+◌, true, List, [], ◌∷◌, refl, sym, subst, ap, ◌∙◌}
use Rattle.seize_words.specs.OneMemory.Op.{Out, Make, Found, Stored, Exchanged, Made, Taken, Roomed}
use Rattle.seize_words.specs.OneMemory.Mem.{Mem, Took, value_at}
use Rattle.seize_words.specs.OneMemory.Word.{block_in}
use Rattle.seize.specs.declared.states.TheConstants.{LAST_SLOT}
use Rattle.seize.specs.declared.rows.settle.Settle.{Settle}
use Rattle.seize.specs.declared.rows.settle.Settling.{Settling}
use Rattle.seize.specs.declared.rows.settle.Settling.TheVariants as at
use Rattle.seize.specs.Sequence.{IsUsers}
use Rattle.seize.specs.World.{World, Row, Hand, NoBlock, Making, InUse, Parting, Cutting, Handed, LeftTo, Event, Begin, Step, Makes, Drops, Links, Parts, Unlinks, Rewrites, Operates, Ends, LeavesOver, Relinks, Clears, Chooses, Happens, Runs, MayCut, made_by}
use Rattle.seize_acts.proofs.Given.SeizeMovesState.Ghost.{Life, IsDoomed}
use Rattle.seize_acts.proofs.Given.SeizeMovesMoves.Takes.{first_doomed}
use Rattle.seize_acts.proofs.Given.SeizeRulePoints.Aside.{HandFits, is_handed}
use Rattle.seize_acts.proofs.Given.SeizeRulePoints.Deferred.{next_left}
use Rattle.seize_acts.proofs.Given.SeizeRulePoints.Known.{Backs, FitsAt, bare}
use Rattle.seize_acts.proofs.Given.SeizeRuleRows.Known.{FitsRow}
use Rattle.seize_acts.proofs.Given.SeizeRuleRows.Others.{with_other}
use Rattle.seize_acts.proofs.Given.SeizeMemoryWords.Named.{link-block, made_one}
use Rattle.seize_acts.proofs.Given.SeizeMemoryWords.View.{view}
use Rattle.seize_acts.proofs.Given.SeizeRuleWorld.Values.{own_op_value, taken_value, made_value, rewritten_value}
use Rattle.seize_acts.proofs.Given.SeizeAloneHistories.Reached.{Reached, happens_reached}
use Rattle.seize_views.specs.Views.Rows.{settles_for, IsReclaiming}
use Rattle.seize_views.specs.declared.view.Why.{Why}
use Rattle.seize_views.proofs.Views.Reclaims.{fits_settle}
use Rattle.seize_acts.proofs.Given.SeizeAloneHistories.UsersTurn.{AreUsers as AllOfUsers}

-- what is on its way to the collector, or there, is in its hand
is_its : (k : Hand) (l : Life) → is_handed l ≡ true → HandFits k l → k ≡ Handed
is_its NoBlock l h f = let e = ap is_handed f in absurd (cc (h, e))
is_its (Making i) l h f = let e = ap is_handed f in absurd (cc (h, e))
is_its (InUse o) l h f = let e = ap is_handed f in absurd (cc (h, e))
is_its (Parting i) l h f = let e = ap is_handed f in absurd (cc (h, e))
is_its (Cutting i) l h f = let e = ap is_handed f in absurd (cc (h, e))
is_its Handed l h f = refl
is_its (LeftTo i) l h f = let e = ap is_handed f in absurd (cc (h, e))

module _ {T : Type 0} (defers : T → Option ℕ) (size : ℕ) where
  module _ (w : World T) (r : Reached defers size w) where
    module _ (j : ℕ) (c : Settle) where
      doomed : (b : ℕ) (bs : List ℕ) (next : ℕ) → Backs (LAST_SLOT + 1) j r.good.state r.good.extra (bare c) b bs next → w.hand (block_in c.reclaiming) ≡ Handed
      doomed b bs next k =
          let life : r.good.state.life b ≡ IsDoomed j = first_doomed (LAST_SLOT + 1) j r.good.state b bs r.good.inv k.left in
          let named : block_in c.reclaiming ≡ b =
          ap block_in (sym k.common.lefts ∙ (next_left (LAST_SLOT + 1) j (view defers w.memory) r.good.state r.good.extra b bs r.good.shows k.left).0) ∙ link-block b in
          ap w.hand named ∙ is_its (w.hand b) (r.good.state.life b) (ap is_handed life) (r.good.hands b)

      by_point : (p : Settling) → FitsAt (LAST_SLOT + 1) j (view defers w.memory) r.good.state r.good.extra (bare c) p → IsReclaiming p → w.hand (block_in c.reclaiming) ≡ Handed
      by_point (at.Takes next) f is = doomed f.b f.bs next f.backs
      by_point (at.Drains next word) f is = doomed f.b f.bs next f.backs
      by_point _ f is = absurd is

      -- the block that the row is about to reclaim
      pub reclaiming_handed : (why : Why) → w.row j ≡ settles_for why c → IsReclaiming c.stands → w.hand (block_in c.reclaiming) ≡ Handed
      reclaiming_handed why row is =
          by_point c.stands
          (fits_settle (LAST_SLOT + 1) j (view defers w.memory) r.good.state r.good.extra (length w.memory.slots) c why
          (subst (λ (x : Row). FitsRow (LAST_SLOT + 1) j (view defers w.memory) r.good.state r.good.extra (length w.memory.slots) x) row (r.good.rows j)))
          is

    module _ (b : ℕ) (its : w.hand b ≡ Handed) (there : IsSome (value_at w.memory b)) where
      -- it is the collector's still, and has its value
      abbrev Stays : World T → Type 0
      Stays v = (v.hand b ≡ Handed) × (value_at v.memory b ≡ value_at w.memory b)

      come : (v u : World T) → v ≡ u → Stays u → Stays v
      come v u is k = subst Stays (sym is) k

      -- what somebody has in another way is another block
      not_making : (c i : ℕ) → w.hand c ≡ Making i → b ≡ c → ⊥
      not_making c i has e = let same = ap w.hand e in cc (same, its, has)

      not_linked : (c o : ℕ) → w.hand c ≡ InUse o → b ≡ c → ⊥
      not_linked c o has e = let same = ap w.hand e in cc (same, its, has)

      not_cut : (i c : ℕ) (k : Hand) → w.hand c ≡ k → MayCut i k → b ≡ c → ⊥
      not_cut i c NoBlock has may e = may
      not_cut i c (Making h) has may e = may
      not_cut i c (InUse o) has may e = let same = ap w.hand e in cc (same, its, has)
      not_cut i c (Parting h) has may e = let same = ap w.hand e in cc (same, its, has)
      not_cut i c (Cutting h) has may e = may
      not_cut i c Handed has may e = may
      not_cut i c (LeftTo h) has may e = may

      made : (i words : ℕ) (value : T) (out : Out T) (m : Mem T) → Took w.memory (Make value words) out m → Stays (made_by defers w i m out)
      made i words value (Made (Ok c)) m took = (
        with_other w.hand c b (Making i) (λ e. let free = (made_one w.memory value words c took.0.0).was_free in let same = ap (value_at w.memory) e in cc (there, free, same)) ∙ its,
        made_value defers w.memory b value words (Made (Ok c)) m there took,
      )
      made i words value (Made (Err back)) m took = (its, made_value defers w.memory b value words (Made (Err back)) m there took)
      made i words value (Found x) m took = absurd took.0
      made i words value Stored m took = absurd took.0
      made i words value (Exchanged x) m took = absurd took.0
      made i words value (Taken x) m took = absurd took.0
      made i words value (Roomed x) m took = absurd took.0

      user_keeps : (e : Event T) (v : World T) → IsUsers e → Happens defers size e w v → Stays v
      user_keeps (Begin i request) v is h = absurd is
      user_keeps (Step i) v is h = absurd is
      user_keeps (Ends i o) v is h = absurd is
      user_keeps (LeavesOver i c further) v is h = absurd is
      user_keeps (Relinks i c word) v is h = absurd is
      user_keeps (Clears i c) v is h = absurd is
      user_keeps (Makes i value words) v is h = come v _ h.4 (made i words value h.0 h.1 h.3)
      user_keeps (Drops i c) v is h =
          come v _ h.4 (with_other w.hand c b NoBlock (not_making c h.2.0 h.2.1) ∙ its, taken_value defers w.memory b c h.0 h.1 h.3 (not_making c h.2.0 h.2.1))
      user_keeps (Links i c o) v is h = come v _ h.1 (with_other w.hand c b (InUse o) (not_making c h.0.0 h.0.1) ∙ its, refl)
      user_keeps (Parts i c) v is h = come v _ h.1 (with_other w.hand c b (Parting i) (not_linked c h.0.0 h.0.1) ∙ its, refl)
      user_keeps (Unlinks i c) v is h = come v _ h.1 (with_other w.hand c b (Cutting i) (not_cut i c (w.hand c) refl h.0) ∙ its, refl)
      user_keeps (Rewrites i c value) v is h = come v _ h.5 (its, rewritten_value defers w.memory b c value h.0 h.1 h.3 (not_making c h.2.0 h.2.1))
      user_keeps (Operates op) v is h = come v _ h.4 (its, ap (λ (m : Mem T). value_at m b) h.3.1 ∙ own_op_value defers w.memory b op h.0 h.2)
      user_keeps (Chooses choice) v is h = come v _ h (its, refl)

  -- and so through what users do one after another
  pub users_keep : (events : List (Event T)) (w v : World T) → Reached defers size w → AllOfUsers events → Runs defers size events w v → (b : ℕ) → w.hand b ≡ Handed
      → IsSome (value_at w.memory b) → value_at v.memory b ≡ value_at w.memory b
  users_keep [] w v r is h b its there = ap (λ (x : World T). value_at x.memory b) h
  users_keep (e ∷ events) w v r is h b its there =
      let k = user_keeps w r b its there e h.0 is.0 h.1 in
      users_keep events h.0 v (happens_reached defers size e w h.0 r h.1) is.1 h.2 b k.0 (subst IsSome (sym k.1) there) ∙ k.1
