-- In incremental mode, what each kind of step leaves to a copier that is alone.
use Rattle.std.specs.Prelude.{◌==◌, nat_lt, if◌then◌else◌, Some}
use Rattle.std.proofs.Common.{◌≡◌, ℕ, suc, ◌+◌, ◌-◌, ◌%◌, ◌^◌, ◌<◌, Bool, true, false, ◌⊎◌, inl, inr, refl, ap, sym, subst, ◌∙◌, arith}
use Rattle.std.proofs.lemmas.Bool.{eqb-false}
use Rattle.many_maps.specs.Given.SeizeWordsMem.{Mem, value_at, word_at, with_word, Took}
use Rattle.many_maps.specs.Given.SeizeWordsPlan.{Steps, Ends}
use Rattle.many_maps.proofs.Given.SeizeWordsOneOwner.Operations.{added}
use Rattle.many_maps.specs.Given.SeizeWorld.{World}
use Rattle.many_maps.specs.Given.SeizeDeclared.advance.Advance.{Advance}
use Rattle.many_maps.specs.Given.SeizeDeclared.advance.Advance.TheVariants as progress
use Rattle.many_maps.specs.Given.TablesChunks.{is_incremental}
use Rattle.many_maps.specs.Given.ResizeCopierCounts.{counts, counted, tallies, to}
use Rattle.many_maps.specs.Given.ResizeCopierFurther.{grown}
use Rattle.many_maps.specs.Given.ResizeCopierPlaces.{next_try, pair_put}
use Rattle.many_maps.specs.Given.ResizeCopierStates.{standing, behind, place_done}
use Rattle.many_maps.specs.Given.TablesProbes.{probe_after}
use Rattle.many_maps.specs.Given.TablesTablePlaces.{at_word}
use Rattle.many_maps.specs.Given.TablesDeclared.node.Node.{Node}
use Rattle.many_maps.specs.Given.ResizeDeclared.yielding.Yielding.{Yielding}
use Rattle.many_maps.specs.Given.ResizeDeclared.yielding.Yielding.TheVariants.{Goes, Waits}
use Rattle.many_maps.specs.Given.SeizeWordsDeclared.fault.Fault.{Fault}
use Rattle.many_maps.specs.Given.TablesDeclared.probe.Probe.{Probe}
use Rattle.many_maps.specs.Given.TablesDeclared.setting.Setting.{Setting}
use Rattle.many_maps.specs.Given.TablesDeclared.table.Table.{Table}
use Rattle.many_maps.specs.Given.TablesDeclared.table_words.TheConstants.{COPIED}
use Rattle.many_maps.specs.Given.TablesDeclared.status.TheConstants.Status.{PROMOTED}
use Rattle.many_maps.specs.Given.ResizeDeclared.copier.Copier.{Copier}
use Rattle.many_maps.specs.Given.ResizeDeclared.copier.Copying.{Copying as Point}
use Rattle.many_maps.specs.Given.ResizeDeclared.copier.Copying.TheVariants as at
use Rattle.many_maps.specs.Given.ResizeDeclared.new_table.NewTable.{NewTable}
use Rattle.many_maps.specs.Given.RuleChart.{Chart, put}
use Rattle.many_maps.proofs.Given.RuleMoves.Counts.{counted_behind}
use Rattle.many_maps.specs.Given.RuleMoves.{counted_to, Counts, after}
use Rattle.many_maps.specs.Given.RuleWords.{Blocks}
use Rattle.many_maps.specs.Given.RuleMaps.{spot_of}
use Rattle.many_maps.specs.Given.RuleInWorld.{IsMapIn}
use Rattle.many_maps.specs.Given.PointsFactsCopies.{CopyingFacts, CopierFacts}
use Rattle.many_maps.specs.Given.PointsMeasures.{OthersIdle}
use Rattle.many_maps.specs.Given.PointsTold.{CopierOutcome}
use Rattle.many_maps.specs.Given.PointsToldMoves.{MovedPlain, MovedCounts, MovedPromotes, MovedAnnounces}
use Rattle.many_maps.proofs.Given.PointsCopiers.CopiersCounted.{copied_word as count_there, count_fits, no_wrap}
use Rattle.many_maps.proofs.Given.RuleWords.TablesSeen.{len_is}
use Rattle.many_maps.proofs.Given.RuleWorld.WentIncremental.{rule_incremental}
use Rattle.many_maps.proofs.Given.RuleMoves.Writes.{put_here}
use Rattle.owner_facts.specs.Alone.FactsAlone.{AllAnnounced, AllAnnouncedBut, IsUncounted, AloneAt, FactsAlone}
use Rattle.owner_facts.proofs.Alone.Lone.Moves.{idle_kept, plain_own, plain_kept, promoted_kept, announced_kept, uncounted_of}
use Rattle.owner_facts.proofs.Alone.Lone.CopierSteps.{LeadsOn, WaitsFor}
use Rattle.owner_facts.proofs.Alone.Lone.QuietPoints.{IsQuiet, quiet_behind, quiet_next, alone_quiet}

pub quiet_next_try : (p : Copier) (word code : ℕ) (table : Table) (probe : Probe) → IsQuiet (next_try p word code table probe).stands
quiet_next_try p word code table probe = by (nat_lt probe.len table.limit) (is_incremental p.setting.mode)
  where
    by : (a b : Bool) → IsQuiet
        (if a then standing p (at.Probes word code table (probe_after probe (table.len - 1))) else
        (if b then standing p (at.Passes word code table) else record p { place = 0; end = 0; done = 0; stands = at.Aborts })).stands
    by true b = tt
    by false true = tt
    by false false = tt

pub quiet_pair_put : (p : Copier) (word : ℕ) → IsQuiet (pair_put p word).stands
quiet_pair_put p word = by (is_incremental p.setting.mode)
  where
    by : (b : Bool) → IsQuiet (if b then standing p (at.Covers word) else place_done p).stands
    by true = tt
    by false = quiet_next (record p { done = (p.done + 1) % 2 ^ 64 })

pub quiet_grown : (K V : Type 0) (p : Copier) (word code : ℕ) (b : NewTable × Advance Table) → IsQuiet (grown {K = K} {V = V} p word code b).0.stands
quiet_grown K V p word code (making, progress.Goes) = tt
quiet_grown K V p word code (making, progress.Waits) = tt
quiet_grown K V p word code (making, progress.Done table) = tt
quiet_grown K V p word code (making, progress.Refused fault) = by (p.done == 0)
  where
    by : (b : Bool) → IsQuiet (if b then standing p (at.Unmarks word fault) else standing p (at.Tallies word fault)).stands
    by true = tt
    by false = tt

module _ {K V : Type 0} (same : K → K → Bool) (hash : K → ℕ) (setting : Setting) (bits : is_incremental setting.mode ≡ true)
    (w : World (Node K V)) (caller : ℕ) (c : Chart K) (blocks : Blocks) (map : IsMapIn same hash setting w c blocks) (p : Copier)
    (idle : OthersIdle caller c) (m2 : Mem (Node K V)) (end : Copier × Yielding (Node K V) Table)
    (w2 : World (Node K V)) (c2 : Chart K) (blocks2 : Blocks) (map2 : IsMapIn same hash setting w2 c2 blocks2) where
  -- it goes on from a point at which nothing is to be said
  pub quiet_kept : IsQuiet end.0.stands → c.first < c.past → AllAnnounced c × IsUncounted c → MovedPlain hash caller c c2 → FactsAlone c2 caller end.0
  quiet_kept quiet made alone (inl e) = subst (λ (x : Chart K). FactsAlone x caller end.0) (sym e) (record { idle = idle; point = alone_quiet c end.0 end.0.stands quiet alone })
  quiet_kept quiet made alone (inr (move, plain, e)) = subst (λ (x : Chart K). FactsAlone x caller end.0) (sym e)
      (record {
        idle = idle_kept same hash caller c move (plain_own same hash caller c move plain) idle;
        point = alone_quiet (after (spot_of hash) true move c) end.0 end.0.stands quiet (plain_kept same hash caller c move plain made alone);
      })

  pub quiet_goes : (q : Copier) (outcome : Yielding (Node K V) Table) → end ≡ (q, outcome) → IsQuiet q.stands → IsQuiet end.0.stands
  quiet_goes q outcome e = subst (λ (x : Copier × Yielding (Node K V) Table). IsQuiet x.0.stands) (sym e)

  pub quiet_waits : (stands : Point) (Other : Type 0) → (LeadsOn p w.memory m2 end stands → IsQuiet end.0.stands) → IsQuiet p.stands
      → WaitsFor p w.memory m2 end Other ⊎ LeadsOn p w.memory m2 end stands → IsQuiet end.0.stands
  quiet_waits stands Other goes here (inl h) = quiet_goes p Waits h.0 here
  quiet_waits stands Other goes here (inr h) = goes h

  pub rooted : 0 < c.past → c.first < c.past
  rooted some = map.map.rule.common.rooted some

  pub counts_kept : CopyingFacts same hash w caller setting c blocks p at.Counts → AllAnnounced c × IsUncounted c → MovedCounts hash caller c p c2
      → Steps Took value_at w.memory (counts p) m2 end → FactsAlone c2 caller end.0
  counts_kept f alone e s =
      let l = added w.memory (counted p) (at_word p.target COPIED) p.done m2 end s in
      subst (λ (x : Chart K). FactsAlone x caller end.0) (sym e) (record {
        idle = idle_kept same hash caller c (Counts caller (suc c.first) p.done) (λ i other by. other (sym by)) idle;
        point = by (with_word w.memory (at_word p.target COPIED) ((l.0 + p.done) % 2 ^ 64)) l.0 l.1 ((l.0 + p.done) % 2 ^ 64 == p.source.len) refl l.3;
      })
    where
      by : (m : Mem (Node K V)) (found : ℕ) → word_at w.memory (at_word p.target COPIED) ≡ Some found → (b : Bool) → ((found + p.done) % 2 ^ 64 == p.source.len) ≡ b
          → Ends (value_at m) (if b then to (record p { place = 0; end = 0; done = 0; stands = at.Promotes }) else to (behind (record p { done = 0 }))) end
          → AloneAt (after (spot_of hash) true (Counts caller (suc c.first) p.done) c) end.0 end.0.stands
      by m found read true full ends =
          subst (λ (x : Copier × Yielding (Node K V) Table). AloneAt (after (spot_of hash) true (Counts caller (suc c.first) p.done) c) x.0 x.0.stands) (sym ends)
          (alone.0, ap (λ (x : Table). x.turn) f.0.0.is)
      by m found read false left ends =
          alone_quiet (after (spot_of hash) true (Counts caller (suc c.first) p.done) c) end.0 end.0.stands
          (quiet_goes (behind (record p { done = 0 })) Goes ends (quiet_behind (record p { done = 0 }))) (alone.0, few)
        where
          few : IsUncounted (after (spot_of hash) true (Counts caller (suc c.first) p.done) c)
          few made =
              let there = count_there same hash caller setting w c blocks map p f.0 f.2 in
              let is_found : found ≡ c.copied (suc c.first) = cc (there, read) in
              let fits = count_fits same hash caller setting w c blocks map p f.0 f.2 in
              let whole = no_wrap same hash caller setting w c blocks map p f.0 f.2 in
              let len = len_is hash w.memory c blocks setting.root map.map.shows p.source c.first f.0.0 in
              let sum : (found + p.done) % 2 ^ 64 ≡ c.copied (suc c.first) + p.done = ap (λ (n : ℕ). (n + p.done) % 2 ^ 64) is_found ∙ whole in
              let other = eqb-false ((found + p.done) % 2 ^ 64) p.source.len left in
              let here = put_here c.copied (suc c.first) (counted_to c (suc c.first) p.done) in
              let more = counted_behind c (suc c.first) p.done (omega arith) in
              omega (arith, fits, len, sum, other, here, more)

  pub tallies_kept : (word : ℕ) (fault : Fault) → CopyingFacts same hash w caller setting c blocks p (at.Tallies word fault) → AllAnnounced c → MovedCounts hash caller c p c2
      → CopierOutcome w2 caller setting c2 blocks2 same hash end → Steps Took value_at w.memory (tallies p word fault) m2 end → FactsAlone c2 caller end.0
  tallies_kept word fault f announced e told s =
      let l = added w.memory (λ out. to (record p { done = 0; stands = at.Unmarks word fault })) (at_word p.target COPIED) p.done m2 end s in
      record {
        idle = subst (OthersIdle caller) (sym e) (idle_kept same hash caller c (Counts caller (suc c.first) p.done) (λ i other by. other (sym by)) idle);
        point = subst (λ (x : Copier × Yielding (Node K V) Table). AloneAt c2 x.0 x.0.stands) (sym l.3) (
          subst AllAnnounced (sym e) announced,
          few (subst (λ (x : Copier × Yielding (Node K V) Table). CopierOutcome w2 caller setting c2 blocks2 same hash x) l.3 told),
        );
      }
    where
      few : CopierFacts same hash w2 caller setting c2 blocks2 (record p { done = 0; stands = at.Unmarks word fault }) → IsUncounted c2
      few facts =
          let works = facts.point.0.2 in
          uncounted_of same hash caller c2 (rule_incremental same hash setting w2 c2 blocks2 map2 bits) works.copies.1.made p.place works.in_range.0
          (λ counted. let claimed = works.claims.0 in cc (claimed, counted))

  pub promotes_kept : CopyingFacts same hash w caller setting c blocks p at.Promotes → AllAnnounced c × (p.source.turn ≡ c.first) → MovedPromotes hash caller c p end c2 → FactsAlone c2 caller end.0
  promotes_kept f alone (inr e) = absurd (e.1 alone.1)
  promotes_kept f alone (inl e) =
      let source = ap (λ (x : Table). x.turn) f.1.0.is in
      let target = ap (λ (x : Table). x.turn) f.1.1.is in
      let turn = alone.1 in
      let root : p.target.turn ≡ suc c.first = omega (arith, source, target, turn) in
      let made = f.1.1.made in
      let kept = promoted_kept same hash caller c (rule_incremental same hash setting w c blocks map bits) (omega (arith, source, turn, made)) alone.0 in
      subst (λ (x : Chart K). FactsAlone x caller end.0) (sym e.1) (record {
        idle = idle;
        point = subst (λ (x : Copier × Yielding (Node K V) Table). AloneAt (record c { first = suc c.first }) x.0 x.0.stands) (sym e.0)
            (subst (λ (u : ℕ). AllAnnouncedBut (record c { first = suc c.first }) u × IsUncounted (record c { first = suc c.first })) (sym root) kept);
      })

  pub announces_kept : AllAnnouncedBut c p.target.turn × IsUncounted c → MovedAnnounces hash caller c p c2 → IsQuiet end.0.stands → FactsAlone c2 caller end.0
  announces_kept alone e quiet = subst (λ (x : Chart K). FactsAlone x caller end.0) (sym e) (record {
    idle = idle;
    point = alone_quiet (record c { status = put c.status p.target.turn PROMOTED }) end.0 end.0.stands quiet (announced_kept same hash caller c p.target.turn alone);
  })

  pub ends_kept : (outcome : Yielding (Node K V) Table) → end ≡ (p, outcome) → IsQuiet p.stands → AllAnnounced c × IsUncounted c → c2 ≡ c → FactsAlone c2 caller end.0
  ends_kept outcome ends quiet alone e = subst (λ (x : Chart K). FactsAlone x caller end.0) (sym e)
      (record { idle = idle; point = alone_quiet c end.0 end.0.stands (quiet_goes p outcome ends quiet) alone })
