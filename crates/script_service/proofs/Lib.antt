mod EventsKeep
mod TurnsKeep
mod OrdersKeep
