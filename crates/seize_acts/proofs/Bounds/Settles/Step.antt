-- A step of a settling: what is known of it, and that it lowers what is left.
use Rattle.std.specs.Prelude.{◌/◌, Option}
use Rattle.std.proofs.Common.{◌≡◌, ℕ, ◌+◌, ◌<◌, ◌≤◌, Bool, true, false, length, arith, ap, sym, subst}
use Rattle.seize_words.specs.declared.at.At.TheVariants.{Slot}
use Rattle.seize_words.specs.OneMemory.Mem.{Mem}
use Rattle.seize.specs.declared.states.TheConstants.{BATCH, HELD, LAST_SLOT}
use Rattle.seize.specs.declared.rows.settle.Settle.{Settle}
use Rattle.seize.specs.declared.rows.settle.Settling.{Settling}
use Rattle.seize.specs.declared.rows.settle.Settled.{Settled}
use Rattle.seize.specs.declared.rows.settle.Settled.TheVariants.{Goes}
use Rattle.seize.specs.Settle as plans
use Rattle.seize_model.proofs.Given.SeizeMovesState.Ghost.{State}
use Rattle.seize_model.proofs.Given.SeizeMovesState.Rule.{Inv}
use Rattle.seize_model.proofs.Given.SeizeMemoryWords.Named.{words_of}
use Rattle.seize_model.proofs.Given.SeizeMemoryWords.View.{view}
use Rattle.seize_model.proofs.Given.SeizeMemoryWords.Shows.{Extra, Shows}
use Rattle.seize_model.proofs.Given.SeizeRulePoints.Told.{Plain, Pushing, part, part_at, flush_part, Told}
use Rattle.seize_model.proofs.Given.SeizeRulePoints.Known.{Fits}
use Rattle.seize_acts.proofs.Bounds.Bounds.Machine.{MOST}
use Rattle.seize_acts.proofs.Bounds.Settles.Carried.{NoMore, no_more, owes}
use Rattle.seize_acts.proofs.Bounds.Settles.Measure.{ahead, behind, point, here, HasSeen, goes_onward}

-- what is known of a step
pub record Stepping {T : Type 0} (defers : T → Option ℕ) (j : ℕ) (mem mem2 : Mem T) (m : State) (x : Extra) (c : Settle) (end : Settle × Settled T) (m2 : State)
    (x2 : Extra) : Type 0 where
  pub inv : Inv (LAST_SLOT + 1) m
  pub shows : Shows (LAST_SLOT + 1) (view defers mem) m x
  pub shows2 : Shows (LAST_SLOT + 1) (view defers mem2) m2 x2
  pub few_left : length (m2.left j) ≤ MOST
  pub few_puts : length (m2.puts j) ≤ MOST
  pub there : c.slot < LAST_SLOT + 1
  pub free : c.held ≡ false → words_of mem (Slot c.slot BATCH) ≡ HELD → ⊥
  pub fits2 : Fits (LAST_SLOT + 1) j (view defers mem2) m2 x2 end.0

pub flush_not : (g : Bool) → flush_part g ≡ Pushing → ⊥
flush_not true e = cc e
flush_not false e = cc e

both_fall : (a b c d k l : ℕ) → a + k ≤ b + l → c + l < d + k → a + c < b + d
both_fall a b c d k l h i = omega (arith, h, i)

pub nothing_more : (a b : ℕ) → a ≤ b → a + 0 ≤ b + 0
nothing_more a b h = omega (arith, h)

module _ {T : Type 0} {defers : T → Option ℕ} {j : ℕ} {mem mem2 : Mem T} {m : State} {x : Extra} {c : Settle} {end : Settle × Settled T} {m2 : State} {x2 : Extra}
    (k : Stepping defers j mem mem2 m x c end m2 x2) where
  -- how far a point is from the end of its work, and what is left behind it
  abbrev pub near : Settling → ℕ
  near p = ahead c.held c.flushing + point c.lost (behind (c.put_last / 2048) (m.puts j)) p

  abbrev pub far : Settling → ℕ
  far p = owes j c.slot (part_at c.flushing p) m

  abbrev pub far2 : ℕ
  far2 = owes j c.slot (part end.0) m2

  -- it goes on so, from this point
  pub record Less (p : Settling) : Type 0 where
    pub seen : HasSeen m2 end.0
    pub falls : far2 + here (m2.puts j) end.0 < far p + near p

  pub less : (p : Settling) (d : Settle) (o : Settled T) → end ≡ (d, o) → HasSeen m2 d → (a b : ℕ) → far2 + a ≤ far p + b → here (m2.puts j) d + b < near p + a
      → Less p
  less p d o e s a b h i = record {
    seen = subst (λ (q : Settle × Settled T). HasSeen m2 q.0) (sym e) s;
    falls = subst (λ (q : Settle × Settled T). far2 + here (m2.puts j) q.0 < far p + near p) (sym e)
        (both_fall far2 (far p) (here (m2.puts j) d) (near p) a b h i);
  }

  -- to what comes next
  pub on : (p : Settling) (d : Settle) (o : Settled T) → end ≡ (plans.onward d, o) → (a b : ℕ) → far2 + a ≤ far p + b
      → ahead d.held d.flushing + 6 + b < near p + a → Less p
  on p d o e a b h i =
      let g = goes_onward (m2.puts j) d in
      let close = g.near in
      less p (plans.onward d) o e (g.seen m2) a b h (nearer (here (m2.puts j) (plans.onward d)) (ahead d.held d.flushing + 6) (near p + a) close i)
    where
      nearer : (u v w : ℕ) → u ≤ v → v + b < w → u + b < w
      nearer u v w f g = omega (arith, f, g)

  -- as it is, to another point
  pub goes : (p q : Settling) (d : Settle) → end ≡ (plans.standing d q, Goes) → HasSeen m2 (plans.standing d q) → far2 ≤ far p
      → here (m2.puts j) (plans.standing d q) < near p → Less p
  goes p q d e seen h i =
      less p (plans.standing d q) Goes e seen 0 0 (nothing_more far2 (far p) h) (still (here (m2.puts j) (plans.standing d q)) (near p) i)
    where
      still : (u v : ℕ) → u < v → u + 0 < v + 0
      still u v f = omega (arith, f)

  -- what its move leaves
  pub leaves : (p : Settling) → Told (LAST_SLOT + 1) j c (part_at c.flushing p) m end.0 m2 → NoMore j c.slot m (part_at c.flushing p) (part end.0) m2
  leaves p told = no_more (LAST_SLOT + 1) j m m2 k.inv k.few_left k.few_puts c (part_at c.flushing p) end.0 told

  -- no more is left behind it, unless a try ends
  pub owes_less : (p : Settling) → (part_at c.flushing p ≡ Pushing → part end.0 ≡ Plain → ⊥) → Told (LAST_SLOT + 1) j c (part_at c.flushing p) m end.0 m2
      → far2 ≤ far p
  owes_less p np told = let a = leaves p told in sums _ _ _ _ a.weighs (a.takes np)
    where
      sums : (u v w z : ℕ) → u ≤ v → w ≤ z → u + w ≤ v + z
      sums u v w z f g = omega (arith, f, g)

  pub still_pushing : (d : Settle) (o : Settled T) → end ≡ (d, o) → part d ≡ Pushing → part end.0 ≡ Plain → ⊥
  still_pushing d o e is z = let a = ap (λ (q : Settle × Settled T). part q.0) e in cc (a, is, z)
