use Rattle.hs_laws.proofs.FirstLemmas.{refused_leaves, refused_tells}
use Rattle.hs_laws.proofs.refusal.a_refusal_leaves_the_store.Goals as goal

pub returns-clause-kept : goal.returns-clause-kept
returns-clause-kept c = refused_leaves

pub returns-clause-told : goal.returns-clause-told
returns-clause-told c = refused_tells
