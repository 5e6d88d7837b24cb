use Rattle.std.proofs.Common.{◌≡◌, ◌≢◌, ℕ, List, sym, map}
use Rattle.std.proofs.lemmas.List.{append-nil}
use Rattle.flat_net.specs.Nodes.{number_of}
use Rattle.flat_net.specs.First.{IsFirst}
use Rattle.flat_net.specs.Faults.{is_no_net}
use Rattle.flat_net.specs.declared.fault.NetFault.TheVariants.{Undriven, Memory}
use Rattle.flat_net.proofs.Firsts.{none_nil}
use Rattle.flat_net.proofs.Going.{pushed_pins, pushed_nets, first_no_net}
use Rattle.flat_net.proofs.Causes.{told_fault}
use Rattle.flat_net.proofs.building.wires.push_pins.Goals as goal

pub loop-read-init : goal.loop-read-init
loop-read-init c = record { pins = sym (append-nil (map number_of c.args.pins.now.items)); nets = none_nil (is_no_net c.args.names.now.keys) }

pub loop-read-preserved : goal.loop-read-preserved
loop-read-preserved c = record {
  pins = pushed_pins c.args.names.now.keys c.args.reads.now c.loop-read.read-index c.read-item.result c.loop-read-test.true c.read-item.is (map number_of c.args.pins.now.items) (map number_of c.loop-read.pins.items) (map number_of c.push_pin.new.pins.items) c.loop-read.invariant.pins c.in_ok-push_pin.ensures.ok;
  nets = pushed_nets c.args.names.now.keys c.args.reads.now c.loop-read.read-index c.read-item.result c.loop-read-test.true c.read-item.is c.loop-read.invariant.nets c.in_ok-push_pin.ensures.net;
}

pub returns-in_err-push_pin-clause-fault : goal.returns-in_err-push_pin-clause-fault
returns-in_err-push_pin-clause-fault c =
    let told : c.in_err-push_pin.field-0.0 ≢ Memory → (name : List ℕ) × IsFirst (is_no_net c.args.names.now.keys) c.args.reads.now name × (c.in_err-push_pin.field-0.0 ≡ Undriven name) = λ other.
    let found = c.in_err-push_pin.ensures.fault other in
    (c.read-item.result, first_no_net c.args.names.now.keys c.args.reads.now c.loop-read.read-index c.read-item.result c.loop-read-test.true c.read-item.is c.loop-read.invariant.nets found.1, found.0) in
    told_fault c.from_residual.result c.in_err-push_pin.field-0.0 _ c.from_residual.ensures.1 told
