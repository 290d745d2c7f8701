-- What is so of a state wherever other facts are, is so of where a list of acts leads; and by which terms it is said makes no difference.
use Rattle.std.proofs.Common.{ℕ, Bool, sym, subst}
use Rattle.many_acts.specs.Given.ScenesScene.{slot_of}
use Rattle.run_kept.specs.Given.EffectsKnown.{Known}
use Rattle.run_finds.specs.Given.ExecutorDeclared.executor.Executor.{Executor}
use Rattle.many_acts.specs.Acts.Lists.{Course}
use Rattle.play_lists.specs.Played.Play.{State}
use Rattle.play_lists.specs.Grouped.Reach.{Reach}

module _ {K V S : Type 0} (same : K → K → Bool) (by_hasher : S → K → ℕ) (hasher : S) (batch_size roots shards : ℕ) (P Q : State K V S → Type 0) (so : (x : State K V S) → P x → Q x) (e : Executor K V S) (noted : Known) where
  pub reach_so : Reach same by_hasher hasher batch_size roots shards P e noted → Reach same by_hasher hasher batch_size roots shards Q e noted
  reach_so at = record {
    hasher_is = at.hasher_is;
    size = at.size;
    roots_are = at.roots_are;
    doings = at.doings;
    asks = at.asks;
    leads = at.leads;
    played = λ value. (let was = at.played value in record { aborts = was.aborts; after = was.after; plays = was.plays; new = was.new; knows = was.knows; so = so was.after was.so });
  }

module _ {K V S : Type 0} (same : K → K → Bool) (by_hasher : S → K → ℕ) (shards : ℕ) (P Q : State K V S → Type 0) (e e2 : Executor K V S) (noted noted2 : Known) where
  -- From where an executor is it leads on to where another one is.
  abbrev pub Goes : S → ℕ → ℕ → Type 0
  Goes h b r = Course V same by_hasher b r slot_of → Reach same by_hasher h b r shards P e noted → Reach same by_hasher h b r shards Q e2 noted2

  pub goes_at : Goes e.hasher e.batch_size e.roots → (b r : ℕ) → Course V same by_hasher b r slot_of → Reach same by_hasher e.hasher b r shards P e noted
      → Reach same by_hasher e2.hasher b r shards Q e2 noted2
  goes_at goes b r any at =
      let so = subst (λ (x : ℕ). Goes e.hasher x r) at.size (subst (λ (x : ℕ). Goes e.hasher e.batch_size x) at.roots_are goes) in
      let done = so any at in
      subst (λ (h : S). Reach same by_hasher h b r shards Q e2 noted2) (sym done.hasher_is) done
