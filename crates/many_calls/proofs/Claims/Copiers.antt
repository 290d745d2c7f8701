-- A step of a copier comes to the claiming of places from the look at the claim alone.
use Rattle.std.specs.Prelude.{ℕ, ◌+◌, ◌-◌, ◌%◌, ◌/◌, ◌^◌, ◌==◌, nat_lt, if◌then◌else◌, Bool, true, false, Ok, Err}
use Rattle.std.proofs.Common.{◌≡◌, refl, sym, subst}
use Rattle.seize_model.specs.Given.SeizeWordsMem.{Mem, value_at, with_word, Took}
use Rattle.seize_model.specs.Given.SeizeWordsOp.{Out, Found, Exchanged}
use Rattle.seize_model.specs.Given.SeizeWordsPlan.{Steps}
use Rattle.seize_model.specs.Given.SeizeWorld.{World}
use Rattle.seize_model.specs.Given.SeizeDeclared.advance.Advance.{Advance}
use Rattle.seize_model.specs.Given.SeizeDeclared.advance.Advance.TheVariants as progress
use Rattle.seize_model.proofs.Given.SeizeWordsOneOwner.Operations.{added}
use Rattle.map_facts_late.specs.Given.ResizeCopier.{plan_at, copier_plan}
use Rattle.map_facts_late.specs.Given.ResizeCopierClaims.{chunk, claimed, status_read}
use Rattle.map_facts_late.specs.Given.ResizeCopierCounts.{counted}
use Rattle.map_facts_late.specs.Given.ResizeCopierFurther.{replacement_read, remade}
use Rattle.map_facts_late.specs.Given.ResizeCopierMarks.{is_mine, is_awaited, marked}
use Rattle.map_facts_late.specs.Given.ResizeCopierPlaces.{next_try, pair_put, place_read, after_put}
use Rattle.map_facts_late.specs.Given.ResizeCopierPromotes.{promoted, successor_read}
use Rattle.map_facts_late.specs.Given.ResizeCopierStates.{behind, none_left, next_place, place_done}
use Rattle.map_facts_late.specs.Given.ResizeNewTable.{new_table_plan}
use Rattle.map_facts_late.specs.Given.TablesChunks.{is_incremental}
use Rattle.map_facts_late.specs.Given.TablesTablePlaces.{at_word}
use Rattle.map_facts_late.specs.Given.TablesDeclared.node.Node.{Node}
use Rattle.map_facts_late.specs.Given.TablesDeclared.probe.Probe.{Probe}
use Rattle.map_facts_late.specs.Given.TablesDeclared.setting.Setting.{Setting}
use Rattle.map_facts_late.specs.Given.TablesDeclared.status.TheConstants.Status.{PROMOTED, ABORTED}
use Rattle.map_facts_late.specs.Given.TablesDeclared.table.Table.{Table}
use Rattle.map_facts_late.specs.Given.TablesDeclared.table_words.TheConstants.{CLAIM}
use Rattle.map_facts_late.specs.Given.ResizeDeclared.yielding.Yielding.{Yielding}
use Rattle.map_facts_late.specs.Given.ResizeDeclared.copier.Copier.{Copier}
use Rattle.map_facts_late.specs.Given.ResizeDeclared.copier.Copying.{Copying as Point}
use Rattle.map_facts_late.specs.Given.ResizeDeclared.copier.Copying.TheVariants as at
use Rattle.map_facts_late.specs.Given.ResizeDeclared.new_table.NewTable.{NewTable}
use Rattle.map_facts_late.specs.Given.RuleChart.{Chart}
use Rattle.map_facts_late.specs.Given.RuleWords.{Blocks}
use Rattle.map_facts_late.proofs.Given.RuleKeys.Always.{Always, AlwaysOf, always_if, always_ends, always_plan_as, always_steps}
use Rattle.many_calls.proofs.Claims.Knows.{CopierKnows}

-- it is not to claim places next
abbrev pub IsOther : Point → Type 0
IsOther at.Claims = ⊥
IsOther _ = Unit {0}

-- of two, where both go on elsewhere
either : (b : Bool) (x y : Copier) → IsOther x.stands → IsOther y.stands → IsOther (if b then x else y).stands
either true x y f g = f
either false x y f g = g

module _ (p : Copier) where
  behind_other : IsOther (behind p).stands
  behind_other = either p.whole _ _ tt tt

  pub none_left_other : IsOther (none_left p).stands
  none_left_other = either p.whole _ _ tt tt

  next_other : IsOther (next_place p).stands
  next_other = either (nat_lt p.place (p.end - 1)) _ _ tt (either (p.done == 0) _ _ behind_other tt)

  next_try_other : (word code : ℕ) (table : Table) (probe : Probe) → IsOther (next_try p word code table probe).stands
  next_try_other word code table probe = either (nat_lt probe.len table.limit) _ _ tt (either (is_incremental p.setting.mode) _ _ tt tt)

done_other : (p : Copier) → IsOther (place_done p).stands
done_other p = next_other (record p { done = (p.done + 1) % 2 ^ 64 })

pair_put_other : (p : Copier) (word : ℕ) → IsOther (pair_put p word).stands
pair_put_other p word = either (is_incremental p.setting.mode) _ _ tt (done_other p)

module _ (K V : Type 0) (hash : K → ℕ) (p : Copier) where
  abbrev pub OtherEnd : Copier × Yielding (Node K V) Table → Type 0
  OtherEnd end = IsOther end.0.stands

  remade_other : (end : NewTable × Advance Table) → OtherEnd (remade p end)
  remade_other (making, progress.Goes) = tt
  remade_other (making, progress.Waits) = tt
  remade_other (making, progress.Done table) = tt
  remade_other (making, progress.Refused fault) = tt

  -- at the claiming itself a claim was found
  claimed_other : (m m2 : Mem (Node K V)) (end : Copier × Yielding (Node K V) Table) → Steps Took value_at m (plan_at hash p at.Claims) m2 end → OtherEnd end
  claimed_other m m2 end s =
      let d = added m (claimed p) (at_word p.target CLAIM) (chunk p) m2 end s in
      always_ends OtherEnd (value_at (with_word m (at_word p.target CLAIM) ((d.0 + chunk p) % 2 ^ 64))) (claimed p (Found d.0)) end (always_if OtherEnd (nat_lt d.0 p.source.len) _ _ tt (none_left_other p)) d.3

  -- what each answer of an operation leads to
  module _ (here : IsOther p.stands) where
    status_other : (out : Out (Node K V)) → Always OtherEnd (status_read p out)
    status_other (Found status) =
        always_if OtherEnd (status == PROMOTED) _ _ tt (always_if OtherEnd (status == ABORTED) _ _ tt (always_if OtherEnd p.spent _ _ here tt))
    status_other _ = here

    marked_other : (out : Out (Node K V)) → Always OtherEnd (marked hash p out)
    marked_other (Found word) =
        always_if OtherEnd (is_mine p word) _ _ (always_if OtherEnd (word / 2048 == 0) _ _ (done_other p) (λ value. tt))
        (always_if OtherEnd (is_awaited p word) _ _ here (next_other p))
    marked_other _ = here

    place_other : (word code : ℕ) (table : Table) (probe : Probe) (out : Out (Node K V)) → Always OtherEnd (place_read p word code table probe out)
    place_other word code table probe (Found found) = always_if OtherEnd (found == 0) _ _ tt (next_try_other p word code table probe)
    place_other word code table probe _ = here

    put_other : (word code : ℕ) (table : Table) (probe : Probe) (out : Out (Node K V)) → Always OtherEnd (after_put p word code table probe out)
    put_other word code table probe (Exchanged (Ok found)) = pair_put_other p word
    put_other word code table probe (Exchanged (Err found)) = next_try_other p word code table probe
    put_other word code table probe _ = here

    replacement_other : (out : Out (Node K V)) → Always OtherEnd (replacement_read p out)
    replacement_other (Found link) = always_if OtherEnd (link == 0) _ _ tt (λ value. tt)
    replacement_other _ = here

    counted_other : (out : Out (Node K V)) → Always OtherEnd (counted p out)
    counted_other (Found count) = always_if OtherEnd ((count + p.done) % 2 ^ 64 == p.source.len) _ _ tt (behind_other (record p { done = 0 }))
    counted_other _ = here

    promoted_other : (out : Out (Node K V)) → Always OtherEnd (promoted p out)
    promoted_other (Exchanged (Ok found)) = tt
    promoted_other (Exchanged (Err found)) = behind_other p
    promoted_other _ = here

    successor_other : (table : ℕ) (out : Out (Node K V)) → Always OtherEnd (successor_read p table out)
    successor_other table (Found link) = tt
    successor_other table _ = here

  module _ (w : World (Node K V)) (caller : ℕ) (setting : Setting) (c : Chart K) (blocks : Blocks) (m m2 : Mem (Node K V)) (end : Copier × Yielding (Node K V) Table) where
    -- whatever its step comes to
    pub copier_other : CopierKnows w caller setting c blocks p p.stands → (p.stands ≡ at.Sees → ⊥) → Steps Took value_at m (copier_plan hash p) m2 end → OtherEnd end
    copier_other knows unseeing s = by p.stands refl knows s
      where
        at_point : (stands : Point) → AlwaysOf OtherEnd (plan_at hash p stands) → Steps Took value_at m (plan_at hash p stands) m2 end → OtherEnd end
        at_point stands all s = always_steps OtherEnd m m2 (plan_at hash p stands) end all s

        here : (stands : Point) → p.stands ≡ stands → IsOther stands → IsOther p.stands
        here stands is other = subst IsOther (sym is) other

        by : (stands : Point) → p.stands ≡ stands → CopierKnows w caller setting c blocks p stands → Steps Took value_at m (plan_at hash p stands) m2 end → OtherEnd end
        by at.Sees is k s = absurd (unseeing is)
        by at.Claims is k s = claimed_other m m2 end s
        by at.Asks is k s = at_point at.Asks (status_other (here at.Asks is tt)) s
        by at.Marks is k s = at_point at.Marks (marked_other (here at.Marks is tt)) s
        by (at.Probes word code table probe) is k s = at_point (at.Probes word code table probe) (place_other (here (at.Probes word code table probe) is tt) word code table probe) s
        by (at.Puts word code table probe) is k s = at_point (at.Puts word code table probe) (put_other (here (at.Puts word code table probe) is tt) word code table probe) s
        by at.Counts is k s = at_point at.Counts (counted_other (here at.Counts is tt)) s
        by at.Aborts is k s = at_point at.Aborts (λ out. tt) s
        by at.Replaces is k s = at_point at.Replaces (replacement_other (here at.Replaces is tt)) s
        by (at.Remakes making) is k s = at_point (at.Remakes making) (always_plan_as OtherEnd (remade p) remade_other (new_table_plan making)) s
        by at.Promotes is k s = at_point at.Promotes (promoted_other (here at.Promotes is tt)) s
        by at.Announces is k s = at_point at.Announces (λ out. tt) s
        by (at.Succeeds table) is k s = at_point (at.Succeeds table) (successor_other (here (at.Succeeds table) is tt) table) s
        by at.Over is k s = at_point at.Over (here at.Over is tt) s
        by (at.Refused fault) is k s = at_point (at.Refused fault) (here (at.Refused fault) is tt) s
        by _ is k s = absurd k
