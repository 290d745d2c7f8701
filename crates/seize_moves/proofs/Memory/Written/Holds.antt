-- Writes to the words of slots: who holds a slot's batch.
use Rattle.std.proofs.Common.{◌≡◌, ℕ, ◌+◌, ◌<◌, refl, arith}
use Rattle.seize_moves.proofs.Moves.State.Ghost.{put, State, Stage, Open}
use Rattle.seize_moves.proofs.Moves.State.Moves.{held, gave}
use Rattle.seize_moves.proofs.Memory.Words.Named.{link}
use Rattle.seize_moves.proofs.Memory.Words.Chains.{last_of}
use Rattle.seize_moves.proofs.Memory.Words.View.{View}
use Rattle.seize_moves.proofs.Memory.Words.Shows.{Extra, Shows, Written, EndIs, keeps_like}

-- a word that is not 1 says that no row holds the batch, and is the link of its last block
pub not_held : (n s : ℕ) (f : View) (m : State) (x : Extra) → Shows n f m x → s < n → (f.batches s ≡ 1 → ⊥) → m.holder s ≡ 0
not_held n s f m x v l h = grind (arith, v.linkage.batched s l)

pub held_written : (n i s : ℕ) (f : View) (m : State) (x : Extra) → Shows n f m x → s < n
    → Written n i f m x (record f { batches = put f.batches s 1 }) (held m i s) x
held_written n i s f m x v l = record {
  shows = record {
    entries = v.entries;
    linkage = record {
      batched = λ t lt. grind (arith, v.linkage.batched t lt);
      linked = v.linkage.linked;
      ended = λ b. one (m.stage b) (x.behind b) (v.linkage.ended b);
      first = v.linkage.first;
      counted = v.linkage.counted;
      zeros = v.linkage.zeros;
    };
    lists = v.lists;
  };
  keeps = keeps_like i f m x _ refl refl refl refl refl;
}
  where
    one : (g : Stage) (e : ℕ) → EndIs m.holder e g → EndIs (put m.holder s (i + 1)) e g
    one g e h = grind arith

pub gave_written : (n i s : ℕ) (f : View) (m : State) (x : Extra) → Shows n f m x → s < n → m.stage (m.open_batch s) ≡ Open s
    → ((b : ℕ) → m.stage b ≡ Open s → m.open_batch s ≡ b) → x.behind (m.open_batch s) ≡ 0
    → Written n i f m x (record f { batches = put f.batches s (link (last_of (m.blocks (m.open_batch s)))) }) (gave m s) x
gave_written n i s f m x v l mine sole none = record {
  shows = record {
    entries = v.entries;
    linkage = record {
      batched = λ t lt. grind (arith, v.linkage.batched t lt);
      linked = v.linkage.linked;
      ended = λ b. one b (m.stage b) refl (v.linkage.ended b);
      first = v.linkage.first;
      counted = v.linkage.counted;
      zeros = v.linkage.zeros;
    };
    lists = v.lists;
  };
  keeps = keeps_like i f m x _ refl refl refl refl refl;
}
  where
    one : (b : ℕ) (g : Stage) → m.stage b ≡ g → EndIs m.holder (x.behind b) g → EndIs (put m.holder s 0) (x.behind b) g
    one b g e h = grind (arith, sole b)
