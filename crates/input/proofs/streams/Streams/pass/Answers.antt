use Rattle.std.proofs.Common.{◌≡◌, ℕ, ◌+◌, ◌-◌, ◌^◌, ◌%◌, ◌≤◌, IsErr, sym, ap, subst, ◌∙◌, length, length-drop, arith}
use Rattle.input.specs.Streams.{unused_of, read_of, place_of}
use Rattle.input.proofs.streams.Streams.pass.Goals as goal

-- the place k bytes further, of l that are not yet used
further : (read l k place d e m : ℕ) → l ≤ 2 ^ 64 → k ≤ l → m ≡ l - k → e ≡ d + k
    → (read + (2 ^ 64 - l)) % 2 ^ 64 ≡ (place + d) % 2 ^ 64 → (read + (2 ^ 64 - m)) % 2 ^ 64 ≡ (place + e) % 2 ^ 64
further read l k place d e m p q r s h = omega arith

pub loop-left-preserved : goal.loop-left-preserved
loop-left-preserved g c = record {
  most = omega (arith, c.loop-left.invariant.most);
  place = ap (λ r. (r + (2 ^ 64 - length (unused_of c.skip.new.self))) % 2 ^ 64) c.skip.ensures.read
      ∙ further (read_of c.ready.new.self) (length (unused_of c.ready.new.self)) c.min-count.result (place_of c.args.self.now) (c.args.n - c.loop-left.left) _ _
      (omega (arith, c.unused.ensures, c.unused.type_inv)) (omega (arith, c.min-count.ensures, c.unused.ensures))
      (ap length c.skip.ensures.unused ∙ length-drop c.min-count.result (unused_of c.ready.new.self))
      (omega (arith, c.min-count.ensures, c.loop-left.invariant.most)) (c.ready.ensures.place ∙ c.loop-left.invariant.place);
  failed = λ e. c.skip.ensures.writing ∙ (c.ready.ensures.failed (subst IsErr (sym (c.loop-left.invariant.failed e)) e)).1 ∙ c.loop-left.invariant.failed e;
}
