use Rattle.std.proofs.Common.{refl, sym, ◌∙◌, arith}
use Rattle.prune_plan.proofs.AliveNodes.{alive_below, alive_root, alive_above, alive_filled}
use Rattle.prune_plan.proofs.lives.+is_alive.Goals as goal

pub returns-then-not-is_filled : goal.returns-then-not-is_filled
returns-then-not-is_filled t c = (
  λ none. absurd (cc none),
  λ alive. sym c.if-not-is_filled.true ∙ c.is_filled.ensures.1 (alive_filled c.args.tree.now c.args.prepared.now c.args.node alive),
)

pub is_alive-requires : goal.is_alive-requires
is_alive-requires t c =
    let parent = c.in-Some.parent in
    let low = c.parent_of.ensures.before parent ((c.parent_of.ensures.parent parent).1 c.in-Some.is) in
    (omega (arith, low), (omega (arith, low, c.requires.node), c.requires.fits))

pub returns-in-Some : goal.returns-in-Some
returns-in-Some t c =
    let tree = c.args.tree.now in
    let parent = c.in-Some.parent in
    let hangs = (c.parent_of.ensures.parent parent).1 c.in-Some.is in (
      λ yes. alive_below tree c.args.prepared.now c.args.node parent hangs (c.is_filled.ensures.0 c.if-not-is_filled.false) (c.is_alive.ensures.0 yes),
      λ alive. c.is_alive.ensures.1 (alive_above tree c.args.prepared.now c.args.node parent hangs alive),
    )

pub returns-in-None : goal.returns-in-None
returns-in-None t c = (
  λ yes. alive_root c.args.tree.now c.args.prepared.now c.args.node (λ parent hangs. (let told = sym c.in-None.is ∙ (c.parent_of.ensures.parent parent).0 hangs in cc)) (c.is_filled.ensures.0 c.if-not-is_filled.false),
  λ alive. refl,
)
