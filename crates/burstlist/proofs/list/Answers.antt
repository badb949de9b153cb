use Rattle.burstlist.proofs.list.Goals as goal

pub loop-address-smaller : goal.loop-address-smaller
loop-address-smaller g c = c.in-Some.ensures.nearer
