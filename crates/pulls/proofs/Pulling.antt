-- What a pull leaves in the caller's buffer. Assumes nothing.
use Rattle.std.specs.Prelude.{◌≡◌, ◌++◌, ◌≤◌, ◌+◌, ◌-◌}
use Rattle.ground.specs.Kit.{ap, ◌∙◌, false, List, ℕ, min, arith, length, take, drop, length-drop, length-take-le, take-take, take_at, drop_at, take-add, drop-drop, sets-eq}
use Rattle.state.specs.declared.{State.State, Transfer.Transfer}
use Rattle.ground.specs.Filling.{Filled, filled, fill_of}
use Rattle.state.specs.States.{moved_of}
use Rattle.house.specs.World.{World, in_state, reply}
use Rattle.ground.proofs.Parts.{put_back}
use Rattle.pulls.specs.Pulling.{pulled_of}

-- r bytes more, through the k bytes of `out` from `a` on, after `a` of them
pub fill_more : (source out₀ out last : List ℕ) (a k r : ℕ) → a + r ≤ length source → a + k ≤ length out → r ≤ k
    → out ≡ take a source ++ drop a out₀ → last ≡ take r (drop a source) ++ drop r (take k (drop a out))
    → take a out ++ (last ++ drop k (drop a out)) ≡ take (a + r) source ++ drop (a + r) out₀
fill_more source out₀ out last a k r h i j e f =
    let xs = take r (drop a source) in
    let n : length xs ≡ r = length-take-le r (drop a source) (simp length-drop (omega arith)) in
    let m = length-take-le a source (omega arith) in
    let t : take a out ≡ take a source = rw e (take_at (take a source) (drop a out₀) a m) in
    let d : drop a out ≡ drop a out₀ = rw e (drop_at (take a source) (drop a out₀) a m) in
    put_back out xs last a k i (omega arith) (rw n f)
    ∙ sets-eq xs out a (omega arith)
    ∙ rw (n, ← drop-drop r a out, d, drop-drop r a out₀, t, take-add a r source)
