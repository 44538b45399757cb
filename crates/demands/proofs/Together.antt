-- Our drive meets the three demands. Assumes nothing.
use Rattle.demands.specs.Device.{drive}
use Rattle.demands.specs.Uncut.{Uncut}
use Rattle.demands.specs.Together.{Demands, ToldApart}
use Rattle.demands.proofs.Answered.{answered}
use Rattle.demands.proofs.Faithful.{faithful}
use Rattle.demands.proofs.AnyWorld.{heard_alike}
use Rattle.demands.proofs.Carrying.{our_cuttings}

uncut : Uncut drive
uncut = record { over = faithful; cut = our_cuttings }

pub demands : Demands drive
demands = record { answered = answered; faithful = faithful; uncut = uncut }

pub told_apart : ToldApart
told_apart d w cs apart a f = apart (heard_alike d drive a f answered faithful.accounted w cs).0
