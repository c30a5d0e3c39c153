mod Pulses
