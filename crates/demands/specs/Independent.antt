-- A device that breaks demand 1 and meets 2 and 3; one that breaks demand 2 and meets 1 and every cutting of 3; one that breaks a cutting of
-- demand 3 and meets 1 and 2. And what the cuttings alone exclude.
use Rattle.std.specs.Prelude.{◌&&◌, ◌∷◌}
use Rattle.ground.specs.Kit.{false, cond, List, [], ℕ, eqb, take, set}
use Rattle.state.specs.Senses.{out_of_range}
use Rattle.state.specs.States.{power_on}
use Rattle.sound.specs.Soundness.{sound_b}
use Rattle.packet.specs.Fields.{length_of}
use Rattle.packet.specs.Rules.{code_of}
use Rattle.packet.specs.declared.Field.TheVariants.{Bytes7To8}
use Rattle.state.specs.declared.{DiscAt.DiscAt}
use Rattle.house.specs.World.{World, in_state, in_buffer, Reply}
use Rattle.drive.specs.Calls.{Feed, Pull, call_of}
use Rattle.demands.specs.Device.{Device}
use Rattle.demands.specs.Answered.{Answered}
use Rattle.demands.specs.Faithful.{Accounts, Faithful}
use Rattle.demands.specs.Uncut.{CutAnywhere, ReadsCut, Cuttings, Uncut}
use Rattle.demands.specs.Wrong.{commanding, feeding_writes, if_accepted, saying, first_block_only, first_pull_only, version_three}

-- a feed of a write leaves the first byte that it took in the block buffer's last byte, which no caller hears: a block has that byte only once it is
-- complete. A piece fed twice leaves the mark that it leaves fed double, other cuts need not
abbrev pub marked : List ℕ → List ℕ → List ℕ
marked buffer [] = buffer
marked buffer (x ∷ xs) = set buffer 1023 x

abbrev pub marking : DiscAt → World → List ℕ → Reply → Reply
marking p w piece a = record { heard = a.heard; world = in_buffer a.world (marked a.world.buffer (take a.heard.count piece)) }

abbrev pub marks_feeds : Device
marks_feeds = feeding_writes marking

-- an unsound state is refused, and powered on anew
abbrev pub starts_anew : Device
starts_anew =
    record {
      start = power_on;
      call = λ w c.
          let a = call_of w c in
          cond (sound_b w.state) a (record { heard = a.heard; world = in_state w power_on });
    }

-- a READ (10) of two blocks fails: a READ cut into commands of one block does as the whole, cut otherwise it need not
abbrev pub fails_pairs : Device
fails_pairs =
    commanding (λ w p a. cond (eqb (code_of p) 0x28 && eqb (length_of Bytes7To8 p) 2) (if_accepted a (saying false out_of_range w)) a)

pub record Independent : Type 0 where
  -- demands 1 and 2, and not demand 3
  pub not_uncut : Answered marks_feeds × Faithful marks_feeds × (CutAnywhere marks_feeds Feed → ⊥)
  -- demand 1 and every cutting, and not demand 2
  pub not_faithful : Answered version_three × Cuttings version_three × (Accounts version_three → ⊥)
  -- demands 2 and 3, and not demand 1
  pub not_answered : Uncut starts_anew × (Answered starts_anew → ⊥)
  -- "One that serves only the first block or first pull of a transfer" obeys some cuttings, and not these
  pub first_pull_only_lem : CutAnywhere first_pull_only Pull → ⊥
  pub first_block_only_lem : ReadsCut first_block_only → ⊥
  -- nor one that fails commands of a certain length
  pub fails_pairs_lem : ReadsCut fails_pairs → ⊥
